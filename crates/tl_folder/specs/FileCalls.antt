-- The system calls that a folder needs.
use Rattle.std.specs.Prelude.{◌≡◌, ◌⊎◌, Bool, true, false, List, [], ◌∷◌, ◌++◌, Result, Ok, Err}
use Rattle.tl_folder.specs.Step.{Step}

-- what the system was asked to do, and whether it reported success
abbrev pub Call : Type 0
Call = Step × Bool

-- the calls of these steps, each of which succeeded
abbrev pub done : List Step → List Call
done [] = []
done (step ∷ more) = (step, true) ∷ done more

-- the call is for the step; if it succeeded, `rest` holds; if it failed, no call follows
abbrev pub IsCallOf : Step → Call → Type 0 → List Call → Type 0
IsCallOf step (asked, true) rest more = (asked ≡ step) × rest
IsCallOf step (asked, false) rest more = (asked ≡ step) × (more ≡ [])

-- the calls are the first of these steps, in order; only the last of the calls may have failed
abbrev pub Begins : List Step → List Call → Type 0
Begins steps [] = Unit {0}
Begins [] (call ∷ more) = ⊥
Begins (step ∷ steps) (call ∷ more) = IsCallOf step call (Begins steps more) more

-- the calls are the first of these steps, in order; the last of the calls failed, and those before it succeeded
abbrev pub Fails : List Step → List Call → Type 0
Fails steps [] = ⊥
Fails [] (call ∷ more) = ⊥
Fails (step ∷ steps) (call ∷ more) = IsCallOf step call (Fails steps more) more

-- Ok: the calls of these steps were added, and all succeeded. Err: one of them failed, and those before it succeeded.
abbrev pub Does : {T E : Type 0} → List Step → List Call → List Call → Result T E → Type 0
Does steps before after (Ok it) = after ≡ before ++ done steps
Does steps before after (Err fault) = (made : List Call) × (after ≡ before ++ made) × Fails steps made

-- Ok: the calls of these steps were added, and all succeeded. Err: none was made, or one of them failed and those
-- before it succeeded.
abbrev pub Takes : {T E : Type 0} → List Step → List Call → List Call → Result T E → Type 0
Takes steps before after (Ok it) = after ≡ before ++ done steps
Takes steps before after (Err fault) = (after ≡ before) ⊎ ((made : List Call) × (after ≡ before ++ made) × Fails steps made)

-- Ok: the calls of these steps were added, and all succeeded. Err: the first of them were added.
abbrev pub Begun : {T E : Type 0} → List Step → List Call → List Call → Result T E → Type 0
Begun steps before after (Ok it) = after ≡ before ++ done steps
Begun steps before after (Err fault) = (made : List Call) × (after ≡ before ++ made) × Begins steps made
