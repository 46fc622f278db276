-- Steps of making a key.
use Rattle.std.specs.Prelude.{◌≡◌, Result, Ok, Err}
use Rattle.tl_note.specs.Key.{IsKeyName}
use Rattle.tl_key.specs.NoteKey.{SeedKey}
use Rattle.tl_run.specs.declared.fault.RunFault.{RunFault}
use Rattle.tl_run.specs.declared.fault.RunFault.TheVariants.{BadName, OutOfMemory}

-- the key that was asked for, or a fault because its name is no key's
abbrev pub MakesKey : SeedKey → Result SeedKey RunFault → Type 0
MakesKey wanted (Ok k) = (k ≡ wanted) × IsKeyName wanted.name
MakesKey wanted (Err BadName) = IsKeyName wanted.name → ⊥
MakesKey wanted (Err OutOfMemory) = IsKeyName wanted.name
MakesKey wanted (Err fault) = ⊥
