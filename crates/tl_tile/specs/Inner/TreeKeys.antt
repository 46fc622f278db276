-- The trees of tiles in a map.
use Rattle.std.specs.Prelude.{ℕ, option_map, vec_items}
use Rattle.std.specs.declared.cmp.Ordering.{Ordering}
use Rattle.std.specs.declared.vec.Vec.{Vec}
use Rattle.std.specs.Ordering.{nat_cmp, ordering_then}
use Rattle.std.specs.BTreeMap.{BTreeMap, get}
use Rattle.tl_hash.specs.Bytes.{Bytes}
use Rattle.tl_tile.specs.Inner.TileTree.{Trees}

-- the keys in order: by level, and then by index
abbrev pub key_cmp : (ℕ × ℕ) → (ℕ × ℕ) → Ordering
key_cmp x y = ordering_then (nat_cmp x.0 y.0) (nat_cmp x.1 y.1)

-- the trees that a map has
abbrev pub trees_in : {A : Type 0} → BTreeMap (ℕ × ℕ) (Vec Bytes A) → Trees
trees_in map level index = option_map vec_items (get key_cmp map (level, index))
