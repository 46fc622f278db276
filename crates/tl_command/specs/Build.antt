-- The command `build`.
use Rattle.std.specs.Prelude.{◌≡◌, ◌≢◌, ℕ, List, length, Contains, None, Some, Option, Result, Err}
use Rattle.tl_hash.specs.Bytes.{Bytes}
use Rattle.tl_note.specs.Key.{IsKeyName}
use Rattle.tl_tile.specs.declared.resource.Resource.{Resource}
use Rattle.tl_tile.specs.Path.{IsResource, path_text}
use Rattle.tl_device.specs.Device.{Passage, IsUnread, IsUnwritten}
use Rattle.tl_command.specs.Lines.{entries_of, first_too_long}
use Rattle.tl_run.specs.Run.{Output, Prints, PrintsRefusal, Fails, Runs}
use Rattle.tl_command.specs.Entries.{IsEntryFault}
use Rattle.tl_run.specs.declared.fault.RunFault.{RunFault}
use Rattle.tl_run.specs.declared.fault.RunFault.TheVariants.{BadOrigin, BadPath, NotThere}
use Rattle.tl_run.specs.Signing.{LogKey, checkpoint_note}
use Rattle.tl_command.specs.Mirror.{mirrored, resource_text, listing_text}

-- a resource of the log of these entries has this path, and this is its text
pub record IsTextAt (note : Bytes) (entries : List Bytes) (path text : Bytes) : Type 0 where
  pub found : Resource
  pub served : Contains (mirrored (length entries)) found
  pub named : path_text found ≡ path
  pub spelled : text ≡ resource_text note entries found

-- what is printed for the log of these entries: the listing of its resources, or the resource with the path asked for
abbrev pub IsPrinted : Bytes → List Bytes → Option Bytes → Bytes → Type 0
IsPrinted note entries None text = text ≡ listing_text note entries (mirrored (length entries))
IsPrinted note entries (Some path) text = IsTextAt note entries path text

-- a log of this many entries has no resource with the path asked for
abbrev pub IsMissing : ℕ → Option Bytes → Type 0
IsMissing size None = ⊥
IsMissing size (Some path) = (r : Resource) → Contains (mirrored size) r → path_text r ≢ path

-- the output for an input: what is printed for the log of its lines, or no such resource, or a line that is too long
abbrev pub BuildComes : LogKey → Option Bytes → Bytes → Output → Type 0
BuildComes key get input (Prints text) =
    (first_too_long (entries_of input) ≡ None) × IsPrinted (checkpoint_note key (entries_of input)) (entries_of input) get text
BuildComes key get input (PrintsRefusal text) = ⊥
BuildComes key get input (Fails NotThere) = (first_too_long (entries_of input) ≡ None) × IsMissing (length (entries_of input)) get
BuildComes key get input (Fails fault) = IsEntryFault (entries_of input) fault

-- the path asked for is that of a resource of some log
abbrev pub IsLawfulPath : Option Bytes → Type 0
IsLawfulPath None = Unit {0}
IsLawfulPath (Some path) = (r : Resource) × IsResource r × (path_text r ≡ path)

-- a run of `build`: before anything is read it refuses an origin that is no key's name, and then a path that no
-- resource can have
abbrev pub RunsBuild : LogKey → Option Bytes → Passage → Passage → Result (Unit {0}) RunFault → Type 0
RunsBuild key get i o (Err BadOrigin) = ¬ (IsKeyName key.name) × IsUnread i × IsUnwritten o
RunsBuild key get i o (Err BadPath) = IsKeyName key.name × ¬ (IsLawfulPath get) × IsUnread i × IsUnwritten o
RunsBuild key get i o result = IsKeyName key.name × IsLawfulPath get × Runs (BuildComes key get) i o result
