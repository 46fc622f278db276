-- The calls that remove the partial tiles or bundles of a full one: their folder is moved to another path, under
-- which they are no resources any more, and removed there.
use Rattle.std.specs.Prelude.{◌≡◌, ◌⊎◌, Bool, true, false, List, [], ◌∷◌, ◌++◌, Result, Ok, Err}
use Rattle.tl_folder.specs.Step.{Path, Step}
use Rattle.tl_folder.specs.Step as step
use Rattle.tl_folder.specs.FileCalls.{Call}

-- what a crash had left at the second path was removed, if that succeeded; the folder was moved there, and then
-- removed, if that succeeded
abbrev pub HasMoved : Path → Path → List Call → List Call → Type 0
HasMoved from to before after =
    (first : Bool) × (last : Bool) × (after ≡ before ++ (step.RemoveFolder to, first) ∷ (step.MoveAway from to, true) ∷ (step.RemoveFolder to, last) ∷ [])

-- what a crash had left at the second path was removed, if that succeeded; then moving the folder failed
abbrev pub HasNotMoved : Path → Path → List Call → List Call → Type 0
HasNotMoved from to before after = (first : Bool) × (after ≡ before ++ (step.RemoveFolder to, first) ∷ (step.MoveAway from to, false) ∷ [])

-- Ok: the folder was moved, or the system didn't move it, since it isn't there. Err: no call was made, or moving it
-- failed.
abbrev pub RemovesFolder : {T E : Type 0} → Path → Path → List Call → List Call → Result T E → Type 0
RemovesFolder from to before after (Ok it) = HasMoved from to before after ⊎ HasNotMoved from to before after
RemovesFolder from to before after (Err fault) = (after ≡ before) ⊎ HasNotMoved from to before after

-- remove what is at the second path, move the folder there, and remove it
abbrev pub removing : Path → Path → List Step
removing from to = step.RemoveFolder to ∷ step.MoveAway from to ∷ step.RemoveFolder to ∷ []

-- the calls are for the first of these steps, in order, whatever their outcomes
abbrev pub AreFirst : List Step → List Call → Type 0
AreFirst steps [] = Unit {0}
AreFirst [] (call ∷ more) = ⊥
AreFirst (step ∷ steps) (call ∷ more) = (call.0 ≡ step) × AreFirst steps more
