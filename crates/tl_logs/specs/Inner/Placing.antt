-- How a key changes the logs.
use Rattle.std.specs.Prelude.{◌≡◌, ◌≢◌, ℕ, ◌⊎◌, List, [], ◌∷◌, ◌++◌, ⊤, Result, Ok, Err, Some, map, slice_get, slice_set}
use Rattle.tl_hash.specs.Bytes.{Bytes}
use Rattle.tl_key.specs.NoteKey.{PublicKey}
use Rattle.tl_logs.specs.declared.line.LineFault.{LineFault}
use Rattle.tl_logs.specs.declared.line.LineFault.TheVariants.{Malformed, Twice, OutOfMemory}
use Rattle.tl_logs.specs.declared.fault.LogsFault.{LogsFault}
use Rattle.tl_logs.specs.declared.fault.LogsFault.TheVariants as why
use Rattle.tl_logs.specs.LogsFile.{GivesKey, IsAmong, IsNoLine, IsPassedOver, Log, LogKey, key_name, log}
use Rattle.tl_logs.specs.Inner.ByOrigin.{log_origins}

-- one of the keys has this key's name and identifier
abbrev pub IsOneOf : PublicKey → List PublicKey → Type 0
IsOneOf key keys = IsAmong (key_name key) (map key_name keys)

-- the log at this position has this origin and these keys
abbrev pub StandsAt : List Log → ℕ → Bytes → List PublicKey → Type 0
StandsAt known place origin keys = slice_get known place ≡ Some (log origin keys)

-- the key is appended to those of its log, or begins a new log at the end
abbrev pub PutsKey : LogKey → List Log → List Log → Type 0
PutsKey k old new =
    ((place : ℕ) × (before : List PublicKey) × StandsAt old place k.origin before × ¬ (IsOneOf k.key before) × (new ≡ slice_set old place (log k.origin (before ++ k.key ∷ []))))
    ⊎ (((place : ℕ) → slice_get (log_origins old) place ≢ Some k.origin) × (new ≡ old ++ log k.origin (k.key ∷ []) ∷ []))

-- its log already has the key
abbrev pub HasKey : LogKey → List Log → Type 0
HasKey k known = (place : ℕ) × (before : List PublicKey) × StandsAt known place k.origin before × IsOneOf k.key before

-- the key is added to those of one log, or the log already has it
abbrev pub AddsKey : PublicKey → Bytes → List PublicKey → Log → Result (Unit {0}) LineFault → Type 0
AddsKey key origin before new (Ok done) = ¬ (IsOneOf key before) × (new ≡ log origin (before ++ key ∷ []))
AddsKey key origin before new (Err Malformed) = ⊥
AddsKey key origin before new (Err Twice) = IsOneOf key before
AddsKey key origin before new (Err OutOfMemory) = ¬ (IsOneOf key before)

-- the key is added to those of its log, or the log already has it
abbrev pub PlacesKey : LogKey → List Log → List Log → Result (Unit {0}) LineFault → Type 0
PlacesKey k old new (Ok done) = PutsKey k old new
PlacesKey k old new (Err Malformed) = ⊥
PlacesKey k old new (Err Twice) = HasKey k old
PlacesKey k old new (Err OutOfMemory) = ⊤

-- a line is taken: it is skipped, or its key is added
abbrev pub TakesLine : Bytes → List Log → List Log → Result (Unit {0}) LineFault → Type 0
TakesLine words old new (Ok done) = (IsPassedOver words × (new ≡ old)) ⊎ ((k : LogKey) × GivesKey words k × PutsKey k old new)
TakesLine words old new (Err Malformed) = IsNoLine words
TakesLine words old new (Err Twice) = (k : LogKey) × GivesKey words k × HasKey k old
TakesLine words old new (Err OutOfMemory) = (k : LogKey) × GivesKey words k

-- the fault of the file that a fault of the line with this number becomes
abbrev pub fault_at : LineFault → ℕ → LogsFault
fault_at Malformed number = why.Malformed number
fault_at Twice number = why.Twice number
fault_at OutOfMemory number = why.OutOfMemory
