-- What was published of a log is the standards' encoding of its beginnings (C2SP tlog-tiles, tlog-checkpoint).
use Rattle.std.specs.Prelude.{◌≡◌, ℕ, ◌*◌, List, take, drop, Some}
use Rattle.sha2.specs.Sha256.{sha256}
use Rattle.tl_note.specs.Key.{SigningKey}
use Rattle.tl_tile.specs.declared.resource.Resource.{Resource}
use Rattle.tl_tile.specs.declared.resource.Resource.TheVariants as resource
use Rattle.tl_tile.specs.TileText.{tile_text}
use Rattle.tl_tile.specs.Bundle.{bundle_text}
use Rattle.tl_log.specs.Histories.{Prefix, Begins, StartsWith}
use Rattle.tl_log.specs.Checkpoints.{text_of_log}
use Rattle.tl_publisher.specs.Signed.{IsSignedNote, Quorum}
use Rattle.tl_publisher.specs.Boards.{shown}

-- these are the bytes of a resource of a log with these entries: the tile, the bundle, or a signed note of the
-- checkpoint
abbrev pub Encodes : List ℕ → List SigningKey → Quorum → List (List ℕ) → Resource → List ℕ → Type 0
Encodes origin signers quorum entries (resource.Tile t) bytes = bytes ≡ tile_text sha256 t entries
Encodes origin signers quorum entries (resource.Entries index width) bytes = bytes ≡ bundle_text (take width (drop (index * 256) entries))
Encodes origin signers quorum entries resource.Checkpoint bytes = IsSignedNote signers quorum (text_of_log origin entries) bytes

-- everything that the history shows now or showed when it was shorter encodes some beginning of the log
abbrev pub AreEncoded : List ℕ → List SigningKey → Quorum → List (List ℕ) → List Prefix → Type 0
AreEncoded origin signers quorum log history =
    (seen : List Prefix) → StartsWith history seen → (r : Resource) (bytes : List ℕ) → shown sha256 r seen ≡ Some bytes
    → (front : List (List ℕ)) × Begins front log × Encodes origin signers quorum front r bytes
