-- What a static mirror of a log serves (C2SP tlog-tiles): its tiles, entry bundles and checkpoint, each under its
-- path.
use Rattle.std.specs.Prelude.{ℕ, ◌*◌, List, [], ◌∷◌, ◌++◌, length, take, drop}
use Rattle.std.specs.List.{flat_map}
use Rattle.sha2.specs.Sha256.{sha256}
use Rattle.tl_hash.specs.Bytes.{Bytes}
use Rattle.tl_text.specs.Text.{line, number_text}
use Rattle.tl_tile.specs.declared.resource.Resource.{Resource}
use Rattle.tl_tile.specs.declared.resource.Resource.TheVariants as resource
use Rattle.tl_tile.specs.TileText.{tile_text}
use Rattle.tl_tile.specs.Bundle.{bundle_text}
use Rattle.tl_tile.specs.Path.{path_text}
use Rattle.tl_tile.specs.Needed.{needed_resources}

-- the resources of a log of this size: those that it needs, and then the checkpoint
abbrev pub mirrored : ℕ → List Resource
mirrored size = needed_resources size ++ resource.Checkpoint ∷ []

-- the bytes of a resource of the log of these entries, whose checkpoint is this note
abbrev pub resource_text : Bytes → List Bytes → Resource → Bytes
resource_text note entries (resource.Tile t) = tile_text sha256 t entries
resource_text note entries (resource.Entries index width) = bundle_text (take width (drop (index * 256) entries))
resource_text note entries resource.Checkpoint = note

-- the line of a resource: its path, a space, and the number of its bytes
abbrev pub listing_line : Bytes → List Bytes → Resource → Bytes
listing_line note entries r = line (path_text r ++ 32 ∷ number_text (length (resource_text note entries r)))

-- a line for each resource
abbrev pub listing_text : Bytes → List Bytes → List Resource → Bytes
listing_text note entries resources = flat_map (listing_line note entries) resources
