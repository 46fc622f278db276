-- Making the folders above a file.
use Rattle.std.specs.Prelude.{◌≡◌, List, ◌++◌, Result, Ok, Err}
use Rattle.tl_folder.specs.Step.{Path}
use Rattle.tl_folder.specs.FileCalls.{Call}
use Rattle.tl_folder.specs.Settling.{AsksAbove}
use Rattle.tl_folder.specs.Adding.{AreAbove}

-- Ok: the folder that the path is in was asked for, with those above it. Err: at most some of these were.
abbrev pub MakesAbove : {T E : Type 0} → Path → List Call → List Call → Result T E → Type 0
MakesAbove path before after (Ok it) = AsksAbove path before after
MakesAbove path before after (Err fault) = (asked : List Call) × (after ≡ before ++ asked) × AreAbove path asked
