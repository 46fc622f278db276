-- Caches of tiles.
use Rattle.std.specs.Prelude.{ℕ, List}
use Rattle.sha2.specs.Sha256.{sha256}
use Rattle.tl_hash.specs.Bytes.{Bytes}
use Rattle.tl_tile.specs.Verified.{AreVerified}
use Rattle.tl_tile.specs.declared.resource.Tile.{Tile}

-- the tiles passed all checks against the size and root of some log
pub record HavePassed (fetched : List (Tile × Bytes)) : Type 0 where
  pub size : ℕ
  pub root : Bytes
  pub verified : AreVerified sha256 size root fetched
