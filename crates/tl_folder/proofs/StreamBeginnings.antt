-- Beginnings of the calls that cut a file of lines.
use Rattle.std.proofs.Common.{◌≡◌, inr, ℕ, Bool, true, List, [], ◌∷◌, ◌++◌, ap, ◌∙◌, append_assoc}
use Rattle.std.specs.Prelude.{Result, Ok, Err, IsErr}
use Rattle.tl_device.specs.Device.{Passage}
use Rattle.tl_folder.specs.Step.{Path, Step}
use Rattle.tl_folder.specs.Step as step
use Rattle.tl_folder.specs.FileCalls.{Call, Does, done}
use Rattle.tl_folder.specs.Posix.{folder_of}
use Rattle.tl_folder.specs.Settling.{naming_in}
use Rattle.tl_folder.specs.Lines.{CutsLines, ReadFront}
use Rattle.tl_folder.proofs.Beginnings.{does_then}

-- all was done except syncing the name
pub cut_unnamed : {T D E : Type 0} (path : Path) (p : Passage) (count : ℕ) (before first second after : List Call) (cut_ok sync_ok : Bool) (one : Result T D) (r : Result ℕ E)
    → IsErr one → IsErr r → ReadFront p count → first ≡ before ++ (step.Cut path count, cut_ok) ∷ [] → cut_ok ≡ true
    → second ≡ first ++ (step.Sync path, sync_ok) ∷ [] → sync_ok ≡ true → Does (naming_in (folder_of path)) second after one → CutsLines path p before after r
cut_unnamed path p count before first second after cut_ok sync_ok (Ok it) r failed fails read a cut b sync does = absurd cc
cut_unnamed path p count before first second after cut_ok sync_ok one (Ok it) failed fails read a cut b sync does = absurd cc
cut_unnamed path p count before first second after cut_ok sync_ok (Err d) (Err e) failed fails read a cut b sync does =
    let steps : List Step = step.Cut path count ∷ step.Sync path ∷ [] in
    let all : second ≡ before ++ done steps =
    b ∙ ap (λ (ok : Bool). first ++ (step.Sync path, ok) ∷ []) sync ∙ ap (λ (c : List Call). c ++ (step.Sync path, true) ∷ []) (a ∙ ap (λ (ok : Bool). before ++ (step.Cut path count, ok) ∷ []) cut)
    ∙ append_assoc before ((step.Cut path count, true) ∷ []) ((step.Sync path, true) ∷ []) in
    inr (count, read, does_then {T = Unit {0}} {D = Unit {0}} steps (naming_in (folder_of path)) before second after (Err tt) all does)
