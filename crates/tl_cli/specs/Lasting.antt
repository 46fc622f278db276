-- Commands on a log in a folder: the folder that their options name, and what is done with it.
use Rattle.std.specs.Prelude.{◌≡◌, ◌<◌, ◌⊎◌, [], Option, Some, None, IfSome, OnOk, Result, Ok, Err, string_bytes}
use Rattle.tl_device.specs.Device.{Passage, IsUnread}
use Rattle.tl_archive.specs.Shelves.{Held}
use Rattle.tl_ledger.specs.Opening.{Found}
use Rattle.tl_folder.specs.Step.{Path}
use Rattle.tl_folder.specs.Folders.{Calls, Reached, at_first, kept_by, traced_by}
use Rattle.tl_command.specs.CheckOpened.{IsIdle}
use Rattle.tl_run.specs.declared.fault.RunFault.{RunFault}
use Rattle.tl_append.specs.Running.{BeginsAsAsked, GoesOn, Visit, batch_size}
use Rattle.tl_append.specs.declared.options.AppendOptions.{AppendOptions}
use Rattle.tl_append.specs.Cosigning.{Quorum}
use Rattle.tl_serve.specs.Asking.{ServesCosigned}
use Rattle.tl_serve.specs.Serving.{IsLeft, Serves}
use Rattle.tl_serve.specs.declared.options.ServeOptions.{ServeOptions}
use Rattle.tl_serve.specs.declared.options.WitnessOptions.{WitnessOptions}

-- the folder of a log that a command has to itself: the path under which it was locked; the folder as a shelf, with
-- its calls so far; and what was read of the log that was found there
pub record Folder : Type 0 where
  pub locked : Path
  pub shelf : Calls
  pub found : Found

-- the folder was locked and opened under this path
abbrev pub IsAt : Path → Folder → Type 0
IsAt path folder = (folder.locked ≡ path) × (folder.shelf.place ≡ path)

-- how a folder changed since it was opened, by what it had then
abbrev pub since_opened : Held → Reached → Calls → Visit
since_opened held reached shelf = record { before = at_first held; after = kept_by held reached shelf; saw = []; sees = traced_by held reached shelf }

-- `append`: the folder that the options name was locked and opened, a log began there if that was asked for, and
-- otherwise the log there went on; or the folder couldn't be, and nothing was read or written
abbrev pub AppendsIn : Held → Reached → AppendOptions → Passage → Passage → Option Folder → Result (Unit {0}) RunFault → Type 0
AppendsIn held reached options i o None (Ok done) = ⊥
AppendsIn held reached options i o None (Err fault) = IsIdle i o
AppendsIn held reached options i o (Some folder) result =
    IsAt (string_bytes options.dir) folder
    × OnOk result (BeginsAsAsked options.is_new folder.found.head)
    × GoesOn options.key (string_bytes options.origin) (batch_size options.batch) folder.found (since_opened held reached folder.shelf) i o result

-- nobody has to cosign what is shown
abbrev pub nobody : Quorum
nobody = record { witnesses = []; need = 0; policy = None }

-- nothing was written, or a log began if that was asked for, and otherwise went on
abbrev pub ServesAsAsked : ServeOptions → Found → Visit → Type 0
ServesAsAsked options found v = IsLeft v ⊎ BeginsAsAsked options.is_new found.head

-- `serve` of a log on a shelf, if witnesses must cosign what is shown, and if none need
pub record ServesBy (options : ServeOptions) (found : Found) (v : Visit) (result : Result (Unit {0}) RunFault) : Type 0 where
  pub begins : ServesAsAsked options found v
  pub cosigned : 0 < options.need → ServesCosigned options found v result
  pub signed : options.need ≡ 0 → Serves options.key (string_bytes options.origin) nobody found v result

-- `serve` of a log in the folder at this path
abbrev pub ServesAt : Held → Reached → ServeOptions → Path → Passage → Option Folder → Result (Unit {0}) RunFault → Type 0
ServesAt held reached options path i None (Ok done) = ⊥
ServesAt held reached options path i None (Err fault) = IsUnread i
ServesAt held reached options path i (Some folder) result =
    IsAt path folder × ServesBy options folder.found (since_opened held reached folder.shelf) result

-- `serve` of a log in the folder that the options name, if they name one
abbrev pub ServesIn : Held → Reached → ServeOptions → Passage → Option Folder → Result (Unit {0}) RunFault → Type 0
ServesIn held reached options i folder result = IfSome options.dir (λ dir. ServesAt held reached options (string_bytes dir) i folder result)

-- a witness with a state file leaves the standard streams alone
abbrev pub SparesStreams : WitnessOptions → Passage → Passage → Type 0
SparesStreams options i o = IfSome options.state (λ path. IsIdle i o)
