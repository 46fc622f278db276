-- The steps of opening a note: the standing of one line, and of all lines.
use Rattle.std.specs.Prelude.{◌≡◌, ℕ, true, false, List, Result, Ok, Err, None, ⊤}
use Rattle.std.specs.declared.vec.Vec.{Vec}
use Rattle.tl_hash.specs.Bytes.{Bytes}
use Rattle.tl_note.specs.declared.fault.NoteFault.{NoteFault}
use Rattle.tl_note.specs.declared.fault.NoteFault.TheVariants.{Ambiguous, InvalidSignature, OutOfMemory}
use Rattle.tl_note.specs.declared.open.Standing.{Standing}
use Rattle.tl_note.specs.declared.open.Standing.TheVariants.{Unknown, Repeated, Verified}
use Rattle.tl_note.specs.Key.{Key}
use Rattle.tl_note.specs.Note.{Signature}
use Rattle.tl_note.specs.Open.{Placed, is_known, is_repeated, is_ambiguous, is_valid, counting_lines, unknown_lines, places, first_wrong, FindsWrong, NeedsMemory}

-- verifying the signature of a line
abbrev pub VerifiesLine : List Key → Bytes → Placed → Result ⊤ NoteFault → Type 0
VerifiesLine keys text p (Ok _) = (is_ambiguous keys p ≡ false) × (is_valid keys text p ≡ true)
VerifiesLine keys text p (Err (Ambiguous place)) = (p.0 ≡ place) × (is_ambiguous keys p ≡ true)
VerifiesLine keys text p (Err (InvalidSignature place)) = (p.0 ≡ place) × (is_ambiguous keys p ≡ false) × (is_valid keys text p ≡ false)
VerifiesLine keys text p (Err OutOfMemory) = is_ambiguous keys p ≡ false
VerifiesLine keys text p (Err _) = ⊥

-- the standing of a line; only a line that counts has a fault
abbrev pub JudgesLine : List Key → Bytes → List Signature → Placed → Result Standing NoteFault → Type 0
JudgesLine keys text lines p (Ok Unknown) = is_known keys p ≡ false
JudgesLine keys text lines p (Ok Repeated) = (is_known keys p ≡ true) × (is_repeated lines p ≡ true)
JudgesLine keys text lines p (Ok Verified) = (is_known keys p ≡ true) × (is_repeated lines p ≡ false) × VerifiesLine keys text p (Ok tt)
JudgesLine keys text lines p (Err fault) = (is_known keys p ≡ true) × (is_repeated lines p ≡ false) × VerifiesLine keys text p (Err fault)

-- the indexes of the lines that count, all valid, and of the unknown lines
abbrev pub SortsLines : {A : Type 0} → List Key → Bytes → List Signature → Result (Vec ℕ A × Vec ℕ A) NoteFault → Type 0
SortsLines keys text lines (Ok found) = (first_wrong keys text lines ≡ None) × (found.0.items ≡ places (counting_lines keys lines)) × (found.1.items ≡ places (unknown_lines keys lines))
SortsLines keys text lines (Err (Ambiguous place)) = FindsWrong keys text lines place true
SortsLines keys text lines (Err (InvalidSignature place)) = FindsWrong keys text lines place false
SortsLines keys text lines (Err OutOfMemory) = NeedsMemory keys lines
SortsLines keys text lines (Err _) = ⊥
