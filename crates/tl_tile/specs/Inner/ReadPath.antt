-- Definitions for the functions that read and write paths.
use Rattle.std.specs.Prelude.{◌≡◌, ◌≢◌, ℕ, ◌+◌, ◌-◌, ◌*◌, ◌^◌, ◌<◌, ◌≤◌, [], ◌∷◌, ◌++◌, ◌==◌, nat_lt, ◌&&◌, if◌then◌else◌, Option, MatchOption}
use Rattle.std.specs.List.{flat_map}
use Rattle.std.specs.Int.Digits.{digits_of}
use Rattle.std.specs.Char.{is_ascii_digit}
use Rattle.tl_hash.specs.Bytes.{Bytes}
use Rattle.tl_tile.specs.declared.resource.Tile.{Tile}
use Rattle.tl_tile.specs.declared.resource.Resource.{Resource}
use Rattle.tl_tile.specs.declared.resource.Resource.TheVariants as resource
use Rattle.tl_tile.specs.Path.{IsTile, marked_group, width_text, piece_text}

-- the bytes after `front`, or none if they don't begin with it
abbrev pub Strips : {X : Type 0} → (X → Bytes) → Bytes → Bytes → Option X → Type 0
Strips now bytes front result = MatchOption result ((rest : Bytes) → bytes ≢ front ++ rest) (λ rest. bytes ≡ front ++ now rest)

-- the number so far, and one more digit; other bytes, and digits past the greatest index, are skipped
abbrev pub with_digit : ℕ → ℕ → ℕ
with_digit n b = if is_ascii_digit b && nat_lt n (2 ^ 56) then n * 10 + (b - 48) else n

-- the number that the digits before the first dot write, after those of n
abbrev pub leading_number : ℕ → Bytes → ℕ
leading_number n [] = n
leading_number n (b ∷ bytes) = if b == 46 then n else leading_number (with_digit n b) bytes

-- the groups of an index before the last one
abbrev pub leading_groups : ℕ → Bytes
leading_groups n = flat_map marked_group (digits_of 1000 n)

abbrev pub IsWidth : Bytes → ℕ → Type 0
IsWidth bytes width = (0 < width) × (width ≤ 256) × (bytes ≡ width_text width)

abbrev pub HasNoWidth : Bytes → Type 0
HasNoWidth bytes = (width : ℕ) → 0 < width → width ≤ 256 → bytes ≢ width_text width

abbrev pub IsPiece : Bytes → ℕ → ℕ → Type 0
IsPiece bytes index width = (index < 2 ^ 56) × (0 < width) × (width ≤ 256) × (bytes ≡ piece_text index width)

abbrev pub HasNoPiece : Bytes → Type 0
HasNoPiece bytes = (index width : ℕ) → index < 2 ^ 56 → 0 < width → width ≤ 256 → bytes ≢ piece_text index width

-- what follows `tile/` in the path of a tile
abbrev pub tile_piece_text : Tile → Bytes
tile_piece_text t = (48 + t.level) ∷ 47 ∷ piece_text t.index t.width

abbrev pub IsTilePath : Bytes → Resource → Type 0
IsTilePath bytes (resource.Tile t) = IsTile t × (bytes ≡ tile_piece_text t)
IsTilePath bytes (resource.Entries index width) = ⊥
IsTilePath bytes resource.Checkpoint = ⊥

abbrev pub HasNoTile : Bytes → Type 0
HasNoTile bytes = (t : Tile) → IsTile t → bytes ≢ tile_piece_text t
