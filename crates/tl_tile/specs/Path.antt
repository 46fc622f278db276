-- The path of each resource (C2SP tlog-tiles, "Merkle Tree", "Log Entries" and "Checkpoints").
use Rattle.std.specs.Prelude.{ℕ, ◌+◌, ◌/◌, ◌%◌, ◌^◌, ◌<◌, ◌≤◌, [], ◌∷◌, ◌++◌, ◌==◌, if◌then◌else◌, codes, decimal, ⊤}
use Rattle.std.specs.List.{flat_map}
use Rattle.std.specs.Int.Digits.{digits_of}
use Rattle.tl_hash.specs.Bytes.{Bytes}
use Rattle.tl_tile.specs.declared.resource.Tile.{Tile}
use Rattle.tl_tile.specs.declared.resource.Resource.{Resource}
use Rattle.tl_tile.specs.declared.resource.Resource.TheVariants as resource

-- the bounds of a tile: a level from 0 to 7, an index below 2^56, a width from 1 to 256
pub record IsTile (t : Tile) : Type 0 where
  pub level : t.level ≤ 7
  pub index : t.index < 2 ^ 56
  pub wide : 0 < t.width
  pub narrow : t.width ≤ 256

abbrev pub IsResource : Resource → Type 0
IsResource (resource.Tile t) = IsTile t
IsResource (resource.Entries index width) = (index < 2 ^ 56) × (0 < width) × (width ≤ 256)
IsResource resource.Checkpoint = ⊤

-- a number below 1000 in three digits
abbrev pub three_digits : ℕ → Bytes
three_digits n = (48 + n / 100) ∷ (48 + n / 10 % 10) ∷ (48 + n % 10) ∷ []

-- a group that isn't the last: `x`, its digits, `/`
abbrev pub marked_group : ℕ → Bytes
marked_group n = 120 ∷ three_digits n ++ 47 ∷ []

-- an index in groups of three digits, as few as possible; each but the last is marked
abbrev pub index_text : ℕ → Bytes
index_text n = flat_map marked_group (digits_of 1000 (n / 1000)) ++ three_digits (n % 1000)

-- the suffix of a partial tile or bundle, `.p/` and the width; a full one has none
abbrev pub width_text : ℕ → Bytes
width_text w = if w == 256 then [] else codes ".p/" ++ decimal w

-- the index and the suffix
abbrev pub piece_text : ℕ → ℕ → Bytes
piece_text index width = index_text index ++ width_text width

-- the path of a resource, without a leading slash
abbrev pub path_text : Resource → Bytes
path_text (resource.Tile t) = codes "tile/" ++ (48 + t.level) ∷ 47 ∷ piece_text t.index t.width
path_text (resource.Entries index width) = codes "tile/entries/" ++ piece_text index width
path_text resource.Checkpoint = codes "checkpoint"
