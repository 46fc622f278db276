-- Bytes that aren't a signed checkpoint.
use Rattle.std.proofs.Common.{◌≡◌, ◌≢◌, ◌<◌, ℕ, List, [], length, refl, sym, ap, subst, ◌∙◌, arith}
use Rattle.std.specs.Prelude.{Err, Option, Some, None}
use Rattle.tl_note.specs.Key.{Key}
use Rattle.tl_note.specs.Note.{Note, Signature}
use Rattle.tl_note.specs.Open.{Placed, counting_lines, first_wrong}
use Rattle.tl_note.specs.declared.fault.NoteFault.TheVariants as note
use Rattle.tl_note.proofs.OneNote.{one_note}
use Rattle.tl_proof.proofs.Folds.{None-no_Some}
use Rattle.tl_checkpoint.specs.Checkpoint.{Head, checkpoint_text}
use Rattle.tl_checkpoint.specs.OpenCheckpoint.{HasOtherText, IsSignedCheckpoint, OpensCheckpoint}
use Rattle.tl_checkpoint.specs.declared.checkpoint.CheckpointFault.{CheckpointFault}
use Rattle.tl_checkpoint.specs.declared.checkpoint.CheckpointFault.TheVariants as checkpoint
use Rattle.tl_checkpoint.specs.declared.opening.OpenCheckpointFault.{OpenCheckpointFault}
use Rattle.tl_checkpoint.specs.declared.opening.OpenCheckpointFault.TheVariants.{Unopened, NoCheckpoint, OutOfMemory}
use Rattle.tl_checkpoint.proofs.OtherTexts.{no_text}

abbrev IsNone : List ℕ → List Key → Type 0
IsNone bytes keys = (c : Head) → IsSignedCheckpoint bytes keys c → ⊥

-- a note with a wrong line isn't a signed checkpoint
wrong_note : (bytes text : List ℕ) (keys : List Key) (lines : List Signature) (p : Placed) → Note bytes text lines → first_wrong keys text lines ≡ Some p → IsNone bytes keys
wrong_note bytes text keys lines p noted wrong = λ c signed.
    let same = one_note bytes text (checkpoint_text c) lines signed.lines noted signed.noted in
    let found : first_wrong keys (checkpoint_text c) signed.lines ≡ Some p =
    subst (λ (t : List ℕ). first_wrong keys t signed.lines ≡ Some p) same.0 (subst (λ (ls : List Signature). first_wrong keys text ls ≡ Some p) same.1 wrong) in
    None-no_Some (first_wrong keys (checkpoint_text c) signed.lines) p signed.opens.sound found

-- a note of which no line counts isn't a signed checkpoint
unknown_note : (bytes text : List ℕ) (keys : List Key) (lines : List Signature) → Note bytes text lines → counting_lines keys lines ≡ [] → IsNone bytes keys
unknown_note bytes text keys lines noted none = λ c signed.
    let same = one_note bytes text (checkpoint_text c) lines signed.lines noted signed.noted in
    let counted : counting_lines keys signed.lines ≡ [] = subst (λ (ls : List Signature). counting_lines keys ls ≡ []) same.1 none in
    let some : 0 < length (counting_lines keys signed.lines) = signed.opens.some in
    absurd (omega (arith, some, ap length counted))

other_text : (A : Type 0) (bytes : List ℕ) (keys : List Key) (fault : CheckpointFault) → HasOtherText A bytes keys fault → fault ≢ checkpoint.OutOfMemory → IsNone bytes keys
other_text A bytes keys fault other known = λ c signed.
    let same = one_note bytes other.text (checkpoint_text c) other.lines signed.lines other.noted signed.noted in
    no_text A other.text c fault signed.stated same.0 other.parsed known

-- bytes that don't open aren't a signed checkpoint, unless an allocation failed
pub not_signed : (A : Type 0) (bytes : List ℕ) (keys : List Key) (fault : OpenCheckpointFault) → OpensCheckpoint {A = A} bytes keys (Err fault) → fault ≢ OutOfMemory → IsNone bytes keys
not_signed A bytes keys (Unopened note.Malformed) given known = λ c signed. given.0 (checkpoint_text c) signed.lines signed.noted
not_signed A bytes keys (Unopened (note.BadName place)) given known = absurd given.0
not_signed A bytes keys (Unopened (note.Ambiguous place)) given known = wrong_note bytes given.0.0 keys given.0.1 given.0.2 given.0.3 given.0.4
not_signed A bytes keys (Unopened (note.InvalidSignature place)) given known = wrong_note bytes given.0.0 keys given.0.1 given.0.2 given.0.3 given.0.4
not_signed A bytes keys (Unopened note.Unverified) given known = unknown_note bytes given.0.0 keys given.0.1 given.0.2 given.0.3
not_signed A bytes keys (Unopened (note.Sign place)) given known = absurd given.0
not_signed A bytes keys (Unopened note.OutOfMemory) given known = absurd (given.1 refl)
not_signed A bytes keys (NoCheckpoint fault) given known = other_text A bytes keys fault given.0 given.1
not_signed A bytes keys OutOfMemory given known = absurd (known refl)
