-- The steps of signing: one signature, one line, all lines.
use Rattle.std.specs.Prelude.{◌≡◌, ℕ, ◌<◌, List, ◌++◌, length, All, Result, Ok, Err, ⊤, IsTrue}
use Rattle.std.specs.List.{flat_map}
use Rattle.std.specs.declared.vec.Vec.{Vec}
use Rattle.tl_hash.specs.Bytes.{Bytes}
use Rattle.tl_note.specs.declared.fault.NoteFault.{NoteFault}
use Rattle.tl_note.specs.declared.fault.NoteFault.TheVariants.{Sign, OutOfMemory}
use Rattle.tl_note.specs.Key.{MayGiveNone, SigningKey}
use Rattle.tl_note.specs.Note.{Signature, IsSignature, signature_line}
use Rattle.tl_note.specs.SignNote.{IsSignedBy, AreSigned, MayFail}

-- what one signer returns: a signature, or that it may refuse the message or give no bytes
abbrev pub GivesSignature : {A : Type 0} → Bytes → SigningKey → ℕ → Result (Vec ℕ A) NoteFault → Type 0
GivesSignature message key place (Ok signature) = (0 < length signature.items) × IsTrue (key.may_give message signature.items)
GivesSignature message key place (Err (Sign at)) = (at ≡ place) × MayGiveNone key message
GivesSignature message key place (Err OutOfMemory) = ⊤
GivesSignature message key place (Err _) = ⊥

-- a line by this signer is added
abbrev pub SignsLine : Bytes → SigningKey → ℕ → Bytes → Bytes → Result ⊤ NoteFault → Type 0
SignsLine message key place old new (Ok _) = (line : Signature) × IsSignature line × IsSignedBy message key line × (new ≡ old ++ signature_line line)
SignsLine message key place old new (Err (Sign at)) = (at ≡ place) × MayGiveNone key message
SignsLine message key place old new (Err OutOfMemory) = ⊤
SignsLine message key place old new (Err _) = ⊥

-- lines by these signers are added
pub record AddsLines (message : Bytes) (keys : List SigningKey) (old new : Bytes) : Type 0 where
  pub lines : List Signature
  pub each : All IsSignature lines
  pub signed : AreSigned message keys lines
  pub added : new ≡ old ++ flat_map signature_line lines

abbrev pub SignsLines : Bytes → List SigningKey → Bytes → Bytes → Result ⊤ NoteFault → Type 0
SignsLines message keys old new (Ok _) = AddsLines message keys old new
SignsLines message keys old new (Err (Sign place)) = MayFail message keys place
SignsLines message keys old new (Err OutOfMemory) = ⊤
SignsLines message keys old new (Err _) = ⊥
