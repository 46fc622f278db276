-- When a source of resources is to blame: it may lack one that is needed, or may answer wrong bytes (C2SP
-- tlog-tiles). `answers` says which bytes it may answer for a resource, and `lacks` which resources it may lack.
use Rattle.std.specs.Prelude.{◌≡◌, ℕ, ◌+◌, List, ◌++◌, map, None, ◌⊎◌}
use Rattle.std.specs.List.{range_with_len}
use Rattle.sha2.specs.Sha256.{sha256}
use Rattle.tl_hash.specs.Bytes.{Bytes}
use Rattle.tl_store.specs.Stored.{stored_index}
use Rattle.tl_tile.specs.declared.resource.Resource.{Resource}
use Rattle.tl_tile.specs.declared.resource.Resource.TheVariants as resource
use Rattle.tl_tile.specs.declared.resource.Tile.{Tile}
use Rattle.tl_tile.specs.Bundle.{IsTruncated, HasTrailing}
use Rattle.tl_tile.specs.Fetched.{tiles_of}
use Rattle.tl_tile.specs.Source.{IsTileOf, AreAnswers}
use Rattle.tl_tile.specs.SourceFaults.{IsBadTile}
use Rattle.tl_tile.specs.TileReader.{Reading, AreAuthentic, LacksNeeded}
use Rattle.tl_tile.specs.Verified.{IsNextFull}

-- ---- bundles

-- the bytes are no bundle of `width` entries: they end within one, or go on past the last
abbrev pub IsNoBundle : Bytes → ℕ → Type 0
IsNoBundle bytes width = IsTruncated bytes width ⊎ HasTrailing bytes width

-- the source may answer bytes for the bundle with this index and width that are no such bundle
abbrev pub AnswersNoBundle : (Resource → Bytes → Type 0) → ℕ → ℕ → Type 0
AnswersNoBundle answers bundle width =
    (text : Bytes) × answers (resource.Entries bundle width) text × IsNoBundle text width

-- ---- tiles

-- the stored indexes of `count` leaves, from that of the entry `first` on
abbrev pub leaf_numbers : ℕ → ℕ → List ℕ
leaf_numbers first count = map (λ i. stored_index 0 (first + i)) (range_with_len 0 count)

-- a read of `count` leaves of a log of this size and root, from that of the entry `first` on, with the tiles that
-- were fetched
abbrev pub leaf_reading : ℕ → Bytes → ℕ → ℕ → List (Tile × Bytes) → Reading
leaf_reading size root first count fetched = record { size = size; root = root; indexes = leaf_numbers first count; fetched = fetched }

-- tiles of a log of this size, with bytes that the source may answer
abbrev pub AreServed : (Resource → Bytes → Type 0) → ℕ → List (Tile × Bytes) → Type 0
AreServed answers size fetched = AreAnswers (λ t. answers (resource.Tile t)) size fetched

-- after the tiles that were there, tiles of a log of this size were added, with bytes that the source may answer
pub record AddsServed (answers : Resource → Bytes → Type 0) (size : ℕ) (before after : List (Tile × Bytes)) : Type 0 where
  pub added : List (Tile × Bytes)
  pub joined : after ≡ before ++ added
  pub served : AreServed answers size added

-- the source may lack the next tile, after those fetched, that the read needs
abbrev pub LacksTile : (Resource → Type 0) → Reading → Type 0
LacksTile lacks read = LacksNeeded sha256 (λ t. lacks (resource.Tile t)) read

-- the source may lack a tile that the leaf of this entry needs, after others that it may answer
abbrev pub LacksLeafTile : (Resource → Bytes → Type 0) → (Resource → Type 0) → ℕ → Bytes → ℕ → Type 0
LacksLeafTile answers lacks size root entry =
    (fetched : List (Tile × Bytes)) × AreServed answers size fetched
    × LacksTile lacks (leaf_reading size root entry 1 fetched)

-- The tiles that were fetched for the leaf of this entry passed all checks, but a proof asked for another one: a full
-- tile of the log that isn't among them, though the tile above it is. The source isn't to blame. Larger logs always
-- have such a tile; only tests show that no proof asks for one.
pub record MissesTile (answers : Resource → Bytes → Type 0) (size : ℕ) (root : Bytes) (entry : ℕ) : Type 0 where
  -- tiles that the source may answer, and the hashes that were read from them
  pub fetched : List (Tile × Bytes)
  pub served : AreServed answers size fetched
  pub hashes : List Bytes
  pub authentic : AreAuthentic sha256 (leaf_reading size root entry 1 fetched) hashes
  -- the tile that isn't among them; the one above it is
  pub tile : Tile
  pub of_log : IsTileOf size tile
  pub missed : tiles_of fetched tile ≡ None
  pub next : IsNextFull sha256 size root fetched tile

-- a proof over the leaf of this entry lacks a tile: the source may lack one that the leaf needs, or the proof asked
-- for another
abbrev pub WantsTile : (Resource → Bytes → Type 0) → (Resource → Type 0) → ℕ → Bytes → ℕ → Type 0
WantsTile answers lacks size root entry =
    LacksLeafTile answers lacks size root entry ⊎ MissesTile answers size root entry

-- among tiles that the source may answer this one is bad
abbrev pub ServesBadTile : (Resource → Bytes → Type 0) → ℕ → Bytes → Tile → Type 0
ServesBadTile answers size root tile =
    (fetched : List (Tile × Bytes)) × AreServed answers size fetched × IsBadTile sha256 size root fetched tile
