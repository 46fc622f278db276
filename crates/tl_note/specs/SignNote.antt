-- What signing a note returns (C2SP signed-note, "Format").
use Rattle.std.specs.Prelude.{◌≡◌, ℕ, ◌<◌, ◌≤◌, List, length, take, All, slice_get, Result, Ok, Err, Some, IsTrue, string_bytes, String}
use Rattle.std.specs.List.{AllZip}
use Rattle.tl_hash.specs.Bytes.{Bytes}
use Rattle.tl_note.specs.declared.fault.NoteFault.{NoteFault}
use Rattle.tl_note.specs.declared.fault.NoteFault.TheVariants.{Malformed, BadName, Ambiguous, InvalidSignature, Unverified, Sign, OutOfMemory}
use Rattle.tl_note.specs.Key.{MayGiveNone, SigningKey, IsKeyName}
use Rattle.tl_note.specs.Note.{Signature, Note, IsNoteText}

-- the line is by this signer: it has its name and identifier, and a signature that it may give for the message
pub record IsSignedBy (message : Bytes) (key : SigningKey) (line : Signature) : Type 0 where
  pub name : line.name ≡ key.name
  pub id : line.id ≡ key.id
  pub given : IsTrue (key.may_give message line.bytes)

-- one line for each signer, in order
abbrev pub AreSigned : Bytes → List SigningKey → List Signature → Type 0
AreSigned message keys lines = AllZip (IsSignedBy message) keys lines

-- the text can be signed, by 1 to 100 signers
pub record CanSign (text : Bytes) (keys : List SigningKey) : Type 0 where
  pub readable : IsNoteText text
  pub some : 0 < length keys
  pub few : length keys ≤ 100

-- the first signer whose name is no key's name
abbrev pub IsFirstBadName : List SigningKey → ℕ → Type 0
IsFirstBadName keys place = (key : SigningKey) × (slice_get keys place ≡ Some key) × (IsKeyName key.name → ⊥) × All (λ k. IsKeyName k.name) (take place keys)

-- the signer at this index may refuse the message, or give no bytes for it
abbrev pub MayFail : Bytes → List SigningKey → ℕ → Type 0
MayFail message keys place = (key : SigningKey) × (slice_get keys place ≡ Some key) × MayGiveNone key message

abbrev pub SignsNote : {A : Type 0} → Bytes → List SigningKey → Result (String A) NoteFault → Type 0
SignsNote text keys (Ok note) = (lines : List Signature) × Note (string_bytes note) text lines × AreSigned text keys lines
SignsNote text keys (Err Malformed) = CanSign text keys → ⊥
SignsNote text keys (Err (BadName place)) = CanSign text keys × IsFirstBadName keys place
SignsNote text keys (Err (Ambiguous place)) = ⊥
SignsNote text keys (Err (InvalidSignature place)) = ⊥
SignsNote text keys (Err Unverified) = ⊥
SignsNote text keys (Err (Sign place)) = CanSign text keys × All (λ k. IsKeyName k.name) keys × MayFail text keys place
SignsNote text keys (Err OutOfMemory) = CanSign text keys × All (λ k. IsKeyName k.name) keys
