-- The calls that put a new file in its place as a whole.
use Rattle.std.specs.Prelude.{◌≡◌, ◌≢◌, ◌⊎◌, Bool, false, List, [], ◌∷◌, ◌++◌, Some, Result, Ok, Err}
use Rattle.std.specs.Path.{path_parent}
use Rattle.tl_device.specs.declared.fault.DeviceFault.{DeviceFault}
use Rattle.tl_device.specs.declared.fault.DeviceFault.TheVariants.{Taken}
use Rattle.tl_folder.specs.Step.{Path, Bytes, Step}
use Rattle.tl_folder.specs.Step as step
use Rattle.tl_folder.specs.FileCalls.{Call, done, Begins, Fails}
use Rattle.tl_folder.specs.Settling.{IsUp, AsksAbove}

-- write a file and sync it
abbrev pub filling : Path → Bytes → List Step
filling path bytes = step.Write path bytes ∷ step.Sync path ∷ []

-- write and sync a file beside a place, then rename it to the place
abbrev pub adding : Path → Path → Bytes → List Step
adding aside place bytes = step.Write aside bytes ∷ step.Sync aside ∷ step.Rename aside place ∷ []

-- writing or syncing the file failed, and then it was removed, or its removal failed
abbrev pub IsUndone : Path → Bytes → List Call → Type 0
IsUndone path bytes made = (failed : List Call) × (gone : Bool) × Fails (filling path bytes) failed × (made ≡ failed ++ (step.Remove path, gone) ∷ [])

-- the calls when the file wasn't written; if its name was taken, what is there stays
abbrev pub GivesUp : Path → Bytes → DeviceFault → List Call → Type 0
GivesUp path bytes fault made = ((fault ≡ Taken) × Fails (filling path bytes) made) ⊎ ((fault ≢ Taken) × IsUndone path bytes made)

-- Ok: the file was written and synced. Err: it was removed again, or its name was taken.
abbrev pub Fills : {T : Type 0} → Path → Bytes → List Call → List Call → Result T DeviceFault → Type 0
Fills path bytes before after (Ok it) = after ≡ before ++ done (filling path bytes)
Fills path bytes before after (Err fault) = (made : List Call) × (after ≡ before ++ made) × GivesUp path bytes fault made

-- the calls only ask for folders above the path
abbrev pub AreAbove : Path → List Call → Type 0
AreAbove path [] = Unit {0}
AreAbove path (call ∷ more) = ((own folder : Path) × (path_parent path ≡ Some own) × IsUp own folder × (call.0 ≡ step.MakeFolder folder)) × AreAbove path more

-- the calls, after folders were asked for, when no file got to the place
abbrev pub Stops : Path → Path → Bytes → DeviceFault → List Call → Type 0
Stops aside place bytes fault made =
    (made ≡ []) ⊎ (GivesUp aside bytes fault made ⊎ (made ≡ done (filling aside bytes) ++ (step.Rename aside place, false) ∷ []))

-- Ok: the folder that the place is in was asked for, with those above it, and then the file was put in place. Err:
-- only folders above the place were asked for, and then at most a part of the rest was done.
abbrev pub Adds : {T : Type 0} → Path → Path → Bytes → List Call → List Call → Result T DeviceFault → Type 0
Adds aside place bytes before after (Ok it) = (mid : List Call) × AsksAbove place before mid × (after ≡ mid ++ done (adding aside place bytes))
Adds aside place bytes before after (Err fault) = (asked made : List Call) × (after ≡ before ++ (asked ++ made)) × AreAbove place asked × Stops aside place bytes fault made

-- the calls up to any moment of adding a file
abbrev pub IsAdding : Path → Path → Bytes → List Call → Type 0
IsAdding aside place bytes calls =
    (asked made : List Call) × (calls ≡ asked ++ made) × AreAbove place asked × (Begins (adding aside place bytes) made ⊎ IsUndone aside bytes made)
