-- Fetched tiles that passed the checks, and the order in which a read fetches tiles.
use Rattle.std.specs.Prelude.{◌≡◌, ℕ, ◌+◌, List, [], ◌∷◌, ◌++◌, All, None, ◌⊎◌}
use Rattle.tl_hash.specs.Bytes.{Bytes, Digest}
use Rattle.tl_tile.specs.declared.resource.Tile.{Tile}
use Rattle.tl_tile.specs.TileText.{full_tile}
use Rattle.tl_tile.specs.Folds.{AreChecked}
use Rattle.tl_tile.specs.FetchedEdge.{HasEdge}
use Rattle.tl_tile.specs.Fetched.{tiles_of, tiles_in}
use Rattle.tl_tile.specs.Source.{AreAnswers, AreLong, HasTileWith}
use Rattle.tl_tile.specs.Fetching.{edge_tiles, BeginsWithEdge}

-- all partial tiles are among them, each text has the right length, and they pass the checks against the root
pub record AreVerified (H : Digest) (size : ℕ) (root : Bytes) (fetched : List (Tile × Bytes)) : Type 0 where
  pub first : BeginsWithEdge size fetched
  pub long : AreLong (tiles_of fetched)
  pub edge : HasEdge (tiles_of fetched) size
  pub checked : AreChecked H (tiles_of fetched) size root

-- the next of the partial tiles, after these
abbrev pub IsNextPartial : ℕ → List (Tile × Bytes) → Tile → Type 0
IsNextPartial size before t = (rest : List Tile) × (edge_tiles size ≡ tiles_in before ++ t ∷ rest)

-- after tiles that passed all checks, a full tile whose tile above is among them
pub record IsNextFull (H : Digest) (size : ℕ) (root : Bytes) (before : List (Tile × Bytes)) (t : Tile) : Type 0 where
  pub full : t ≡ full_tile t.level t.index
  pub passed : AreVerified H size root before
  pub above : HasTileWith (tiles_of before) size (t.level + 1) t.index

-- a tile that a read may fetch after these: it isn't among them
pub record ComesNext (H : Digest) (size : ℕ) (root : Bytes) (before : List (Tile × Bytes)) (t : Tile) : Type 0 where
  pub new : tiles_of before t ≡ None
  pub next : IsNextPartial size before t ⊎ IsNextFull H size root before t

-- after some tiles, each of these comes next
abbrev pub AreNext : Digest → ℕ → Bytes → List (Tile × Bytes) → List (Tile × Bytes) → Type 0
AreNext H size root before [] = Unit {0}
AreNext H size root before (f ∷ more) = ComesNext H size root before f.0 × AreNext H size root (before ++ f ∷ []) more

-- tiles in the order of a read: the partial ones from the highest level down, and then full ones, each after the tile
-- above it, once all before it passed the checks; none comes twice
abbrev pub AreInOrder : Digest → ℕ → Bytes → List (Tile × Bytes) → Type 0
AreInOrder H size root fetched = AreNext H size root [] fetched

-- tiles that passed all checks, in the order of a read; or no tiles
pub record HavePassed (H : Digest) (size : ℕ) (root : Bytes) (fetched : List (Tile × Bytes)) : Type 0 where
  pub order : AreInOrder H size root fetched
  pub passed : (fetched ≡ []) ⊎ AreVerified H size root fetched

-- tiles were added after those before, in the order of a read, each with a text that the source may return and with
-- this property
pub record AddsTiles (may_answer : Tile → Bytes → Type 0) (H : Digest) (size : ℕ) (root : Bytes) (Is : Tile → Type 0) (before after : List (Tile × Bytes)) : Type 0 where
  pub added : List (Tile × Bytes)
  pub joined : after ≡ before ++ added
  pub answers : AreAnswers may_answer size added
  pub order : AreNext H size root before added
  pub each : All (λ f. Is f.0) added
