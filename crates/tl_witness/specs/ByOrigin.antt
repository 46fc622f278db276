-- The positions of origins in a list.
use Rattle.std.specs.Prelude.{◌≡◌, ◌≢◌, ℕ, List, Option, Some, None, slice_get}
use Rattle.std.specs.BTreeMap.{get_by_text}
use Rattle.tl_hash.specs.Bytes.{Bytes}
use Rattle.tl_witness.specs.declared.by_origin.ByOrigin.{ByOrigin}

-- the position that each origin has, if it has one
abbrev pub Index : Type 0
Index = Bytes → Option ℕ

-- the positions in this map
abbrev pub index_of : {A : Type 0} → ByOrigin A → Index
index_of found origin = get_by_text found.places origin

-- the index gives a position of each origin that is in the list, and none for any other
pub record Indexes (index : Index) (origins : List Bytes) : Type 0 where
  pub found : (origin : Bytes) (place : ℕ) → index origin ≡ Some place → slice_get origins place ≡ Some origin
  pub absent : (origin : Bytes) (place : ℕ) → index origin ≡ None → slice_get origins place ≢ Some origin
