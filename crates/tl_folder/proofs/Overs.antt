-- Putting a file over another.
use Rattle.std.proofs.Common.{◌≡◌, true, false, Bool, List, [], ◌∷◌, ◌++◌, refl}
use Rattle.std.specs.Prelude.{Result, Ok, Err, IsErr}
use Rattle.tl_folder.specs.Step.{Path, Bytes}
use Rattle.tl_folder.specs.Step as step
use Rattle.tl_folder.specs.FileCalls.{Call, done, Does, Takes}
use Rattle.tl_folder.specs.Settling.{naming_if}
use Rattle.tl_folder.specs.Inner.Over.{syncing_if, putting}
use Rattle.tl_folder.proofs.Beginnings.{does_first, does_then, does_last}

-- it was written, and its sync failed
pub unsynced : {S T D E : Type 0} (lasting : Bool) (aside place : Path) (bytes : Bytes) (before mid after : List Call) (one : Result S D) (r : Result T E)
    → IsErr one → IsErr r → mid ≡ before ++ (step.Write aside bytes, true) ∷ [] → Does (syncing_if lasting aside) mid after one → Takes (putting lasting aside place bytes) before after r
unsynced lasting aside place bytes before mid after one r failed fails is does =
    does_last (step.Write aside bytes ∷ []) (syncing_if lasting aside ++ step.Rename aside place ∷ naming_if lasting place) before mid after r is
    (does_first (syncing_if lasting aside) (step.Rename aside place ∷ naming_if lasting place) mid after one r failed fails does)

-- it wasn't put there
pub unmoved : {T E : Type 0} (lasting : Bool) (aside place : Path) (bytes : Bytes) (before mid synced after : List Call) (r : Result T E)
    → IsErr r → mid ≡ before ++ (step.Write aside bytes, true) ∷ [] → synced ≡ mid ++ done (syncing_if lasting aside) → after ≡ synced ++ (step.Rename aside place, false) ∷ []
    → Takes (putting lasting aside place bytes) before after r
unmoved lasting aside place bytes before mid synced after (Ok x) fails is then last = absurd (cc)
unmoved {T} {E} lasting aside place bytes before mid synced after (Err e) fails is then last =
    does_last {T = T} {E = E} (step.Write aside bytes ∷ []) (syncing_if lasting aside ++ step.Rename aside place ∷ naming_if lasting place) before mid after (Err e) is
    (does_then {T = T} {D = E} (syncing_if lasting aside) (step.Rename aside place ∷ naming_if lasting place) mid synced after (Err e) then ((step.Rename aside place, false) ∷ [], last, (refl, refl)))

-- it was put there, and its name outlasts a crash if it is to; or a call for that failed
pub moved : {T E : Type 0} (lasting : Bool) (aside place : Path) (bytes : Bytes) (before mid synced put after : List Call) (r : Result T E)
    → mid ≡ before ++ (step.Write aside bytes, true) ∷ [] → synced ≡ mid ++ done (syncing_if lasting aside) → put ≡ synced ++ (step.Rename aside place, true) ∷ []
    → Does (naming_if lasting place) put after r → Takes (putting lasting aside place bytes) before after r
moved lasting aside place bytes before mid synced put after r is then last does =
    does_last (step.Write aside bytes ∷ []) (syncing_if lasting aside ++ step.Rename aside place ∷ naming_if lasting place) before mid after r is
    (does_then (syncing_if lasting aside) (step.Rename aside place ∷ naming_if lasting place) mid synced after r then
    (does_then (step.Rename aside place ∷ []) (naming_if lasting place) synced put after r last does))
