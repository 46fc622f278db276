-- What reading a note, or signature lines alone, returns (C2SP signed-note, "Format").
use Rattle.std.specs.Prelude.{◌≡◌, ℕ, ◌<◌, ◌≤◌, List, length, All, Result, Ok, Err, Vec}
use Rattle.std.specs.List.{flat_map}
use Rattle.tl_hash.specs.Bytes.{Bytes}
use Rattle.tl_note.specs.declared.parse.NoteView.{NoteView}
use Rattle.tl_note.specs.declared.fault.NoteFault.{NoteFault}
use Rattle.tl_note.specs.declared.fault.NoteFault.TheVariants.{Malformed, OutOfMemory}
use Rattle.tl_note.specs.Note.{Note, IsNote, HasNoNote, Signature, IsSignature, signature_line}

-- the text and the lines of the note, or that the bytes are no note; memory is allocated only for a note
abbrev pub ParsesNote : {A : Type 0} → Bytes → Result (NoteView A) NoteFault → Type 0
ParsesNote bytes (Ok view) = Note bytes view.text.now view.signatures.items
ParsesNote bytes (Err Malformed) = HasNoNote bytes
ParsesNote bytes (Err OutOfMemory) = IsNote bytes
ParsesNote bytes (Err _) = ⊥

-- the bytes are these signature lines, at most 100, and nothing else
pub record AreLines (bytes : Bytes) (lines : List Signature) : Type 0 where
  pub each : All IsSignature lines
  pub few : length lines ≤ 100
  pub spelled : bytes ≡ flat_map signature_line lines

-- the lines, or that the bytes are no such lines; memory is allocated only if there is a line
abbrev pub ParsesSignatures : {A : Type 0} → Bytes → Result (Vec Signature A) NoteFault → Type 0
ParsesSignatures bytes (Ok lines) = AreLines bytes lines.items
ParsesSignatures bytes (Err Malformed) = (lines : List Signature) → AreLines bytes lines → ⊥
ParsesSignatures bytes (Err OutOfMemory) = (lines : List Signature) × AreLines bytes lines × (0 < length lines)
ParsesSignatures bytes (Err _) = ⊥
