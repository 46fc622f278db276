-- What opening a note returns (C2SP signed-note, "Verification"; Go's sumdb/note).
use Rattle.std.specs.Prelude.{◌≡◌, ℕ, List, [], Result, Ok, Err, Some, true, false, IsTrue, not}
use Rattle.tl_hash.specs.Bytes.{Bytes}
use Rattle.tl_note.specs.declared.open.OpenedNote.{OpenedNote}
use Rattle.tl_note.specs.declared.fault.NoteFault.{NoteFault}
use Rattle.tl_note.specs.declared.fault.NoteFault.TheVariants.{Malformed, BadName, Ambiguous, InvalidSignature, Unverified, Sign, OutOfMemory}
use Rattle.tl_note.specs.Key.{Key}
use Rattle.tl_note.specs.Note.{Signature, Note, IsNote, HasNoNote}
use Rattle.tl_note.specs.Open.{Placed, Opened, counting_lines, unknown_lines, first_wrong, is_ambiguous, places, FindsWrong, NeedsMemory}

-- the opened note is that of this text and these lines: it opens, and the indexes are those of its lines that count
-- and of its unknown lines
pub record Verifying {A : Type 0} (keys : List Key) (text : Bytes) (lines : List Signature) (opened : OpenedNote A) : Type 0 where
  pub same_text : opened.note.text.now ≡ text
  pub same_lines : opened.note.signatures.items ≡ lines
  pub opens : Opened keys text lines
  pub verified : opened.verified.items ≡ places (counting_lines keys lines)
  pub unverified : opened.unverified.items ≡ places (unknown_lines keys lines)

-- what verifying a note returns, by its text and lines
abbrev pub VerifiesNote : {A : Type 0} → List Key → Bytes → List Signature → Result (OpenedNote A) NoteFault → Type 0
VerifiesNote keys text lines (Ok opened) = Verifying keys text lines opened
VerifiesNote keys text lines (Err Malformed) = ⊥
VerifiesNote keys text lines (Err (BadName place)) = ⊥
VerifiesNote keys text lines (Err (Ambiguous place)) = FindsWrong keys text lines place true
VerifiesNote keys text lines (Err (InvalidSignature place)) = FindsWrong keys text lines place false
VerifiesNote keys text lines (Err Unverified) = counting_lines keys lines ≡ []
VerifiesNote keys text lines (Err (Sign place)) = ⊥
VerifiesNote keys text lines (Err OutOfMemory) = NeedsMemory keys lines

-- the bytes are a note whose first wrong line is at this index, for this reason
abbrev pub IsWrongAt : Bytes → List Key → ℕ → (Placed → Type 0) → Type 0
IsWrongAt bytes keys place reason = (text : Bytes) × (lines : List Signature) × (p : Placed) × Note bytes text lines × (first_wrong keys text lines ≡ Some p) × (p.0 ≡ place) × reason p

-- the message is the note that was opened; it opens, and the indexes are those of its lines that count and of its
-- unknown lines
pub record Opening {A : Type 0} (bytes : Bytes) (keys : List Key) (opened : OpenedNote A) : Type 0 where
  pub note : Note bytes opened.note.text.now opened.note.signatures.items
  pub opens : Opened keys opened.note.text.now opened.note.signatures.items
  pub verified : opened.verified.items ≡ places (counting_lines keys opened.note.signatures.items)
  pub unverified : opened.unverified.items ≡ places (unknown_lines keys opened.note.signatures.items)

abbrev pub OpensNote : {A : Type 0} → Bytes → List Key → Result (OpenedNote A) NoteFault → Type 0
OpensNote bytes keys (Ok opened) = Opening bytes keys opened
OpensNote bytes keys (Err Malformed) = HasNoNote bytes
OpensNote bytes keys (Err (BadName place)) = ⊥
OpensNote bytes keys (Err (Ambiguous place)) = IsWrongAt bytes keys place (λ p. IsTrue (is_ambiguous keys p))
OpensNote bytes keys (Err (InvalidSignature place)) = IsWrongAt bytes keys place (λ p. IsTrue (not (is_ambiguous keys p)))
OpensNote bytes keys (Err Unverified) = (text : Bytes) × (lines : List Signature) × Note bytes text lines × (counting_lines keys lines ≡ [])
OpensNote bytes keys (Err (Sign place)) = ⊥
OpensNote bytes keys (Err OutOfMemory) = IsNote bytes
