-- Laws of tiles over their definitions.
use Rattle.std.specs.Prelude.{◌≡◌, List, Some}
use Rattle.tl_hash.specs.Bytes.{Bytes, Digest}
use Rattle.tl_tile.specs.declared.resource.Tile.{Tile}
use Rattle.tl_tile.specs.TileText.{tile_text}
use Rattle.tl_tile.specs.Folds.{Tiles}

-- the texts are those of the tiles over the entries
abbrev pub AreHonest : Digest → Tiles → List Bytes → Type 0
AreHonest H tiles entries = (t : Tile) (text : Bytes) → tiles t ≡ Some text → text ≡ tile_text H t entries
