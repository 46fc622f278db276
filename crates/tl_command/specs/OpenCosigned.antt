-- The command `open` under the key of a witness: the message that the witness signed of a note (C2SP
-- tlog-cosignature, "Format").
use Rattle.std.specs.Prelude.{◌≡◌, ℕ, List, [], ◌∷◌, ◌++◌, length}
use Rattle.tl_hash.specs.Bytes.{Bytes}
use Rattle.tl_note.specs.Key.{Key}
use Rattle.tl_note.specs.Note.{Signature, Note, HasNoNote}
use Rattle.tl_checkpoint.specs.Cosignature.{IsCosignature, IsOfKey, cosigned_message}
use Rattle.tl_run.specs.Run.{Output, Prints, PrintsRefusal, Fails}
use Rattle.tl_run.specs.declared.fault.RunFault.TheVariants.{Malformed, WrongSignature, Unverified}

-- none of these lines is of the key
abbrev pub HasNoLine : Key → List Signature → Type 0
HasNoLine key [] = Unit {0}
HasNoLine key (line ∷ lines) = ¬ (IsOfKey key line) × HasNoLine key lines

-- this line is the first of the lines that is of the key, and it has this index, counted from 0
pub record IsFirst (key : Key) (lines : List Signature) (place : ℕ) (line : Signature) : Type 0 where
  pub before : List Signature
  pub after : List Signature
  pub joined : lines ≡ before ++ line ∷ after
  pub count : length before ≡ place
  pub none : HasNoLine key before
  pub of : IsOfKey key line

-- the first line of the key is its cosignature of the note's text at some time, and this is the message that it
-- signed
pub record IsMessageOf (key : Key) (note message : Bytes) : Type 0 where
  pub text : Bytes
  pub lines : List Signature
  pub noted : Note note text lines
  pub place : ℕ
  pub line : Signature
  pub first : IsFirst key lines place line
  pub time : ℕ
  pub valid : IsCosignature text key line time
  pub spelled : message ≡ cosigned_message time text

-- the first line of the key has this index, and is no cosignature of the note's text
pub record IsWrongAt (key : Key) (note : Bytes) (place : ℕ) : Type 0 where
  pub text : Bytes
  pub lines : List Signature
  pub noted : Note note text lines
  pub line : Signature
  pub first : IsFirst key lines place line
  pub wrong : (time : ℕ) → IsCosignature text key line time → ⊥

-- no line of the note is of the key
pub record IsOfNoLine (key : Key) (note : Bytes) : Type 0 where
  pub text : Bytes
  pub lines : List Signature
  pub noted : Note note text lines
  pub none : HasNoLine key lines

-- the output for an input: the message that the key signed of the note that the input is, or why there is none
abbrev pub CosignedComes : Key → Bytes → Output → Type 0
CosignedComes key input (Prints message) = IsMessageOf key input message
CosignedComes key input (PrintsRefusal text) = ⊥
CosignedComes key input (Fails Malformed) = HasNoNote input
CosignedComes key input (Fails (WrongSignature place)) = IsWrongAt key input place
CosignedComes key input (Fails Unverified) = IsOfNoLine key input
CosignedComes key input (Fails fault) = ⊥
