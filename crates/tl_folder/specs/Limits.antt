-- The largest size of a log's resources (C2SP tlog-tiles).
use Rattle.std.specs.Prelude.{ℕ, ◌*◌}
use Rattle.tl_tile.specs.declared.resource.Resource.{Resource}
use Rattle.tl_tile.specs.declared.resource.Resource.TheVariants as resource

-- 256 hashes of 32 bytes; 256 entries of 65,535 bytes, each with a length of two bytes; 65,536 bytes
abbrev pub most_bytes : Resource → ℕ
most_bytes (resource.Tile t) = 256 * 32
most_bytes (resource.Entries index width) = 256 * 65537
most_bytes resource.Checkpoint = 65536
