-- How the file of a witness's lines is compacted.
use Rattle.std.specs.Prelude.{◌≡◌, ℕ, ◌⊎◌, ◌++◌, length, None, Result, Ok, Err}
use Rattle.sha2.specs.Sha256.{sha256}
use Rattle.tl_device.specs.Device.{Passage}
use Rattle.tl_folder.specs.Step.{Bytes}
use Rattle.tl_folder.specs.FileCalls.{Takes, done}
use Rattle.tl_folder.specs.Opened.{Appended}
use Rattle.tl_folder.specs.Settling.{new_path, replacing}
use Rattle.tl_logs.specs.State.{IsCompacted}
use Rattle.tl_logs.specs.StateFaults.{RefusesState}
use Rattle.tl_logs.specs.declared.state_fault.StateFault.{StateFault}
use Rattle.tl_serve.specs.Knowing.{by_state}
use Rattle.tl_serve.specs.declared.witness_fault.WitnessFault.{WitnessFault}
use Rattle.tl_serve.specs.declared.witness_fault.WitnessFault.TheVariants.{Run}

-- the state that was read isn't one, and nothing was called
abbrev pub IsLeftAlone : Passage → Appended → Appended → WitnessFault → Type 0
IsLeftAlone p old new fault = (new ≡ old) × ((why : StateFault) × (fault ≡ Run (by_state why)) × RefusesState sha256 None p why)

-- Ok: one line of each origin of the state that was read replaced the file, with this many bytes in all. Err: the
-- state isn't one, or replacing the file by such lines failed.
abbrev pub CompactsFile : Passage → Appended → Appended → Result ℕ WitnessFault → Type 0
CompactsFile p old new (Ok count) =
    (bytes : Bytes) × IsCompacted sha256 p bytes × (count ≡ length bytes) × (new.calls ≡ old.calls ++ done (replacing (new_path old.path) old.path bytes))
CompactsFile p old new (Err fault) =
    IsLeftAlone p old new fault
    ⊎ ((bytes : Bytes) × IsCompacted sha256 p bytes × Takes {T = Unit {0}} (replacing (new_path old.path) old.path bytes) old.calls new.calls (Err fault))
