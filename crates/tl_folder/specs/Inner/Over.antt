-- Putting a file over another, call by call.
use Rattle.std.specs.Prelude.{Bool, true, false, List, [], ◌∷◌, ◌++◌}
use Rattle.tl_folder.specs.Step.{Path, Bytes, Step}
use Rattle.tl_folder.specs.Step as step
use Rattle.tl_folder.specs.Settling.{naming_if}

-- sync a file, if it is to last
abbrev pub syncing_if : Bool → Path → List Step
syncing_if true path = step.Sync path ∷ []
syncing_if false path = []

-- write the bytes beside a file and rename them to its place; if they are to last, they are synced before, and the
-- name after
abbrev pub putting : Bool → Path → Path → Bytes → List Step
putting lasting aside place bytes = step.Write aside bytes ∷ (syncing_if lasting aside ++ step.Rename aside place ∷ naming_if lasting place)
