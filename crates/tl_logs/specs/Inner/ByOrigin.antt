-- The positions of origins in a list.
use Rattle.std.specs.Prelude.{◌≡◌, ◌≢◌, ℕ, List, Option, Some, None, map, slice_get, bytes_eq, if◌then◌else◌}
use Rattle.std.specs.BTreeMap.{get_by_text}
use Rattle.tl_hash.specs.Bytes.{Bytes}
use Rattle.tl_logs.specs.LogsFile.{Log}
use Rattle.tl_logs.specs.declared.by_origin.ByOrigin.{ByOrigin}

-- the position that each origin has, if it has one
abbrev pub Index : Type 0
Index = Bytes → Option ℕ

-- the positions in this map
abbrev pub index_of : {A : Type 0} → ByOrigin A → Index
index_of found origin = get_by_text found.places origin

-- the origins of logs
abbrev pub log_origins : List Log → List Bytes
log_origins known = map (λ l. l.origin) known

-- the index gives a position of each origin that is in the list, and none for any other
pub record Indexes (index : Index) (origins : List Bytes) : Type 0 where
  pub found : (origin : Bytes) (place : ℕ) → index origin ≡ Some place → slice_get origins place ≡ Some origin
  pub absent : (origin : Bytes) (place : ℕ) → index origin ≡ None → slice_get origins place ≢ Some origin

-- this origin gets this position, and all others keep theirs
abbrev pub PutsOrigin : Bytes → ℕ → Index → Index → Type 0
PutsOrigin origin place old new = (other : Bytes) → new other ≡ (if bytes_eq origin other then Some place else old other)
