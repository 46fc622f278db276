-- Making folders, call by call.
use Rattle.std.specs.Prelude.{◌≡◌, ◌⊎◌, Bool, List, ◌++◌, Result, Ok, Err}
use Rattle.tl_folder.specs.Step.{Path}
use Rattle.tl_folder.specs.FileCalls.{Call, Fails}
use Rattle.tl_folder.specs.Settling.{Asks, AsksFolder, AsksUp, IsUp, making}

-- Ok: the folder was asked for. Err: one of the calls that make it failed.
abbrev pub AsksOne : {T E : Type 0} → Bool → Path → List Call → List Call → Result T E → Type 0
AsksOne named folder before after (Ok it) = Asks named folder before after
AsksOne named folder before after (Err fault) = (made : List Call) × (after ≡ before ++ made) × Fails (making named folder) made

-- no more calls were made, or one of those that make a folder at the path or above it failed
abbrev pub StopsUp : Bool → Path → List Call → List Call → Type 0
StopsUp named path mid after =
    (after ≡ mid) ⊎ ((folder : Path) × (made : List Call) × IsUp path folder × (after ≡ mid ++ made) × Fails (making named folder) made)

-- Ok: the folder was asked for, after some above it. Err: such folders were asked for, until a call failed.
abbrev pub MakesFolders : {T E : Type 0} → Bool → Path → List Call → List Call → Result T E → Type 0
MakesFolders named path before after (Ok it) = AsksFolder named path before after
MakesFolders named path before after (Err fault) = (mid : List Call) × AsksUp named path before mid × StopsUp named path mid after
