-- The command `open`: what a key signed of a note (C2SP signed-note, "Verification"; C2SP tlog-cosignature,
-- "Format").
use Rattle.std.specs.Prelude.{◌≡◌, ◌⊎◌, ℕ, List, [], ◌∷◌, Some, Result, Err}
use Rattle.tl_hash.specs.Bytes.{Bytes}
use Rattle.tl_note.specs.Key.{Key}
use Rattle.tl_note.specs.Note.{Signature, Note, HasNoNote}
use Rattle.tl_note.specs.declared.fault.NoteFault.{NoteFault}
use Rattle.tl_note.specs.declared.fault.NoteFault.TheVariants as note
use Rattle.tl_note.specs.Open.{Placed, Opened, counting_lines, first_wrong}
use Rattle.tl_device.specs.Device.{Passage, IsSteady, IsUnread, IsUnwritten}
use Rattle.tl_key.specs.NoteKey.{PublicKey, cosignature_kind, note_kind, verifier_key}
use Rattle.tl_key.specs.KeyText.{IsVerifierText}
use Rattle.tl_key.specs.Reading.{IsNoVerifierText}
use Rattle.tl_run.specs.Run.{Output, Prints, PrintsRefusal, Fails, Runs}
use Rattle.tl_run.specs.declared.fault.RunFault.{RunFault}
use Rattle.tl_run.specs.declared.fault.RunFault.TheVariants.{Malformed, BadKey, WrongSignature, Unverified, OutOfMemory}
use Rattle.tl_run.specs.Keys.{IsNoKey}
use Rattle.tl_command.specs.OpenCosigned.{CosignedComes}

-- the fault of the command for a fault of opening a note
abbrev pub after_note : NoteFault → RunFault
after_note (note.Ambiguous place) = WrongSignature place
after_note (note.InvalidSignature place) = WrongSignature place
after_note note.Unverified = Unverified
after_note note.OutOfMemory = OutOfMemory
after_note fault = Malformed

-- the bytes are a note of this text, which opens
pub record IsOpened (keys : List Key) (bytes text : Bytes) : Type 0 where
  pub lines : List Signature
  pub noted : Note bytes text lines
  pub opens : Opened keys text lines

-- the bytes are a note whose first wrong line that counts has this index
pub record IsWrongNote (keys : List Key) (bytes : Bytes) (place : ℕ) : Type 0 where
  pub text : Bytes
  pub lines : List Signature
  pub noted : Note bytes text lines
  pub wrong : Placed
  pub first : first_wrong keys text lines ≡ Some wrong
  pub place_is : wrong.0 ≡ place

-- the bytes are a note of which no line counts
pub record IsUnknownNote (keys : List Key) (bytes : Bytes) : Type 0 where
  pub text : Bytes
  pub lines : List Signature
  pub noted : Note bytes text lines
  pub none : counting_lines keys lines ≡ []

-- the output for an input: the text of a note that opens, or why there is none
abbrev pub OpenComes : List Key → Bytes → Output → Type 0
OpenComes keys input (Prints text) = IsOpened keys input text
OpenComes keys input (PrintsRefusal text) = ⊥
OpenComes keys input (Fails Malformed) = HasNoNote input
OpenComes keys input (Fails (WrongSignature place)) = IsWrongNote keys input place
OpenComes keys input (Fails Unverified) = IsUnknownNote keys input
OpenComes keys input (Fails fault) = ⊥

-- the text is that of a log's verifier key that has this property
pub record IsKeyWith (text : Bytes) (Fact : PublicKey → Type 0) : Type 0 where
  pub key : PublicKey
  pub spelled : IsVerifierText note_kind text key
  pub fact : Fact key

-- a run with the text of a log's key: a text of no such key is refused before anything is read. The key needs memory,
-- too
abbrev pub OpensSigned : Bytes → Passage → Passage → Result (Unit {0}) RunFault → Type 0
OpensSigned text i o (Err BadKey) = IsNoKey text × IsUnread i × IsUnwritten o
OpensSigned text i o (Err OutOfMemory) = IsKeyWith text (λ k. IsSteady i × IsUnwritten o)
OpensSigned text i o result = IsKeyWith text (λ k. Runs (OpenComes (verifier_key k ∷ [])) i o result)

-- a run under the key of a witness. The key needs memory, too
abbrev pub OpensCosigned : Key → Passage → Passage → Result (Unit {0}) RunFault → Type 0
OpensCosigned key i o (Err OutOfMemory) = IsSteady i × IsUnwritten o
OpensCosigned key i o result = Runs (CosignedComes key) i o result

-- a run of `open`: the text is that of a witness's key, or else that of a log's key or of no key
abbrev pub RunsOpen : Bytes → Passage → Passage → Result (Unit {0}) RunFault → Type 0
RunsOpen text i o result =
    ((k : PublicKey) × IsVerifierText cosignature_kind text k × OpensCosigned (verifier_key k) i o result)
    ⊎ (IsNoVerifierText cosignature_kind text × OpensSigned text i o result)
