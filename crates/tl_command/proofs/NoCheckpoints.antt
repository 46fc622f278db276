-- Bytes that are no signed checkpoint.
use Rattle.std.proofs.Common.{◌≡◌, ◌≢◌, ℕ, List, refl, sym, subst}
use Rattle.std.specs.Prelude.{Err}
use Rattle.tl_note.specs.Key.{Key}
use Rattle.tl_note.specs.declared.fault.NoteFault.TheVariants as note
use Rattle.tl_note.proofs.OneNote.{one_note}
use Rattle.tl_checkpoint.specs.Checkpoint.{checkpoint_text}
use Rattle.tl_checkpoint.specs.OpenCheckpoint.{OpensCheckpoint, HasOtherText}
use Rattle.tl_checkpoint.specs.declared.checkpoint.CheckpointFault.{CheckpointFault}
use Rattle.tl_checkpoint.specs.declared.checkpoint.CheckpointFault.TheVariants as checkpoint
use Rattle.tl_checkpoint.specs.declared.opening.OpenCheckpointFault.{OpenCheckpointFault}
use Rattle.tl_checkpoint.specs.declared.opening.OpenCheckpointFault.TheVariants.{Unopened, NoCheckpoint, OutOfMemory}
use Rattle.tl_run.specs.declared.fault.RunFault.{RunFault}
use Rattle.tl_command.specs.CheckOpened.{IsNoCheckpoint}
use Rattle.tl_command.specs.Inner.Notes.{OpensBytes, after_opening}
use Rattle.tl_checkpoint.proofs.OtherTexts.{no_text}

-- a note of another text is none of a checkpoint
other_text : (A : Type 0) (bytes : List ℕ) (keys : List Key) (fault : CheckpointFault) → HasOtherText A bytes keys fault → fault ≢ checkpoint.OutOfMemory → IsNoCheckpoint bytes
other_text A bytes keys fault other known = λ c lines stated noted.
    let same = one_note bytes other.text (checkpoint_text c) other.lines lines other.noted noted in
    no_text A other.text c fault stated same.0 other.parsed known

-- why bytes are no signed checkpoint
pub opening_fails : (A : Type 0) (bytes : List ℕ) (keys : List Key) (fault : OpenCheckpointFault) → OpensCheckpoint {A = A} bytes keys (Err fault)
    → OpensBytes {A = A} bytes keys (Err (after_opening fault))
opening_fails A bytes keys (Unopened note.Malformed) given = (refl, λ c lines stated noted. given.0 (checkpoint_text c) lines noted)
opening_fails A bytes keys (Unopened (note.BadName place)) given = absurd given.0
opening_fails A bytes keys (Unopened (note.Ambiguous place)) given =
    let g = given.0 in
    record { text = g.0; lines = g.1; noted = g.3; wrong = g.2; first = g.4; place_is = g.5 }
opening_fails A bytes keys (Unopened (note.InvalidSignature place)) given =
    let g = given.0 in
    record { text = g.0; lines = g.1; noted = g.3; wrong = g.2; first = g.4; place_is = g.5 }
opening_fails A bytes keys (Unopened note.Unverified) given =
    let g = given.0 in
    record { text = g.0; lines = g.1; noted = g.2; none = g.3 }
opening_fails A bytes keys (Unopened (note.Sign place)) given = absurd given.0
opening_fails A bytes keys (Unopened note.OutOfMemory) given = absurd (given.1 refl)
opening_fails A bytes keys (NoCheckpoint fault) given = (refl, other_text A bytes keys fault given.0 given.1)
opening_fails A bytes keys OutOfMemory given = tt

-- the same of what was answered
pub opening_refused : (A : Type 0) (bytes note : List ℕ) (keys : List Key) (fault : OpenCheckpointFault) (answer : RunFault) → answer ≡ after_opening fault
    → OpensCheckpoint {A = A} note keys (Err fault) → note ≡ bytes → OpensBytes {A = A} bytes keys (Err answer)
opening_refused A bytes note keys fault answer told given same =
    subst (λ (f : RunFault). OpensBytes {A = A} bytes keys (Err f)) (sym told)
    (opening_fails A bytes keys fault (subst (λ (b : List ℕ). OpensCheckpoint {A = A} b keys (Err fault)) same given))
