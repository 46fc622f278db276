-- Entries added to a right edge, and the tiles that they complete.
use Rattle.std.specs.Prelude.{◌≡◌, ◌+◌, List, ◌++◌, length}
use Rattle.tl_hash.specs.Bytes.{Bytes, Digest}
use Rattle.tl_tile.specs.declared.resource.Tile.{Tile}
use Rattle.tl_tile.specs.RightEdge.{EdgeContents, IsEdgeOf, shown_since}

-- the new edge is the old one with these entries after its own, and the tiles that they complete were added, with
-- their bytes, to those before
pub record Adds (H : Digest) (added : List Bytes) (old new : EdgeContents) (before now : List (Tile × Bytes)) : Type 0 where
  pub size : new.size ≡ old.size + length added
  pub edge : (entries : List Bytes) → IsEdgeOf old H entries → IsEdgeOf new H (entries ++ added)
  pub tiles : (entries : List Bytes) → IsEdgeOf old H entries → now ≡ before ++ shown_since H (length entries) (entries ++ added)
