-- What is refused before anything is read (C2SP signed-note, "Format", for the names of keys).
use Rattle.std.specs.Prelude.{◌≡◌, List, ℕ, Result, Err}
use Rattle.tl_note.specs.Key.{IsKeyName}
use Rattle.tl_device.specs.Device.{Passage, IsUnread}
use Rattle.tl_run.specs.declared.fault.RunFault.{RunFault}
use Rattle.tl_run.specs.declared.fault.RunFault.TheVariants.{BadOrigin}

-- an origin that is no key's name is refused before anything is read
abbrev pub RefusesOrigin : List ℕ → Passage → Result (Unit {0}) RunFault → Type 0
RefusesOrigin origin i result = (IsKeyName origin → ⊥) → (result ≡ Err BadOrigin) × IsUnread i
