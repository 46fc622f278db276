-- Which logs a witness knows, and what is refused before anything is read (C2SP signed-note, "Format", for the names
-- of keys).
use Rattle.std.specs.Prelude.{◌≡◌, ⊤, Result, Ok, Err, string_bytes}
use Rattle.tl_note.specs.Key.{IsKeyName}
use Rattle.tl_device.specs.Device.{Passage, IsUnread}
use Rattle.tl_run.specs.declared.fault.RunFault.{RunFault}
use Rattle.tl_run.specs.declared.fault.RunFault.TheVariants.{BadOrigin, Chain, OutOfMemory, Read, TooLarge}
use Rattle.tl_logs.specs.declared.state_fault.StateFault.{StateFault}
use Rattle.tl_logs.specs.declared.state_fault.StateFault.TheVariants as state
use Rattle.tl_serve.specs.declared.options.KnownLogs.{KnownLogs}
use Rattle.tl_serve.specs.declared.options.KnownLogs.TheVariants.{One, Listed}
use Rattle.tl_serve.specs.declared.witness_fault.WitnessFault.{WitnessFault}
use Rattle.tl_serve.specs.declared.witness_fault.WitnessFault.TheVariants.{Run}

-- how a witness ends that ends as other commands do
abbrev pub by_witness : Result (Unit {0}) RunFault → Result (Unit {0}) WitnessFault
by_witness (Ok done) = Ok done
by_witness (Err fault) = Err (Run fault)

-- why a state can't be read, as other commands report it: with the line that is to blame
abbrev pub by_state : StateFault → RunFault
by_state state.Read = Read
by_state (state.Malformed line) = Chain line
by_state (state.Broken line) = Chain line
by_state state.TooLarge = TooLarge
by_state state.OutOfMemory = OutOfMemory

-- one log is served if its name is a key's; logs that a file names are checked once the file was read
abbrev pub MayServe : KnownLogs → Type 0
MayServe (One origin key) = IsKeyName (string_bytes origin)
MayServe (Listed path) = ⊤

-- other logs are refused before anything is read
abbrev pub RefusesLog : KnownLogs → Passage → Result (Unit {0}) WitnessFault → Type 0
RefusesLog logs i result = (MayServe logs → ⊥) → (result ≡ Err (Run BadOrigin)) × IsUnread i
