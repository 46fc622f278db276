-- Fetched tiles, in the order in which they were fetched.
use Rattle.std.specs.Prelude.{ℕ, Bool, List, [], ◌∷◌, map, vec_items, Some, None, ◌&&◌, ◌||◌, ◌==◌, ◌/◌, ◌^◌, nat_lt, if◌then◌else◌}
use Rattle.std.specs.declared.vec.Vec.{Vec}
use Rattle.tl_hash.specs.Bytes.{Bytes}
use Rattle.tl_tile.specs.declared.resource.Tile.{Tile}
use Rattle.tl_tile.specs.Folds.{Tiles}

abbrev pub same_tile : Tile → Tile → Bool
same_tile a b = a.level == b.level && a.index == b.index && a.width == b.width

-- the texts by their tiles
abbrev pub tiles_of : List (Tile × Bytes) → Tiles
tiles_of [] t = None
tiles_of (f ∷ more) t = if same_tile f.0 t then Some f.1 else tiles_of more t

-- the tiles without their texts
abbrev pub tiles_in : List (Tile × Bytes) → List Tile
tiles_in fetched = map (λ f. f.0) fetched

-- tiles with their texts
abbrev pub texts_of : {A : Type 0} → List (Tile × Vec ℕ A) → List (Tile × Bytes)
texts_of tiles = map (λ t. (t.0, vec_items t.1)) tiles

-- a partial tile, or the full one over the entry with this index, of one of the eight levels
abbrev pub is_on_path : ℕ → Tile → Bool
is_on_path index t = nat_lt t.width 256 || (nat_lt t.level 8 && index / 256 ^ t.level / 256 == t.index)
