-- The witnesses that are asked: their keys, of which those of one witness follow one another, and their addresses.
use Rattle.std.specs.Prelude.{◌≡◌, ◌≢◌, ℕ, ◌<◌, ◌≤◌, List, [], length, map, slice_index_or}
use Rattle.tl_hash.specs.Bytes.{Bytes}
use Rattle.tl_key.specs.NoteKey.{PublicKey}
use Rattle.tl_source.specs.Url.{IsUrl}
use Rattle.tl_source.specs.declared.url.Url.{Url}

-- the name of the key with this index
abbrev pub name_at : List PublicKey → ℕ → Bytes
name_at keys place = slice_index_or (map (λ key. key.name) keys) place []

-- the keys from `start` up to, but not including, `end` have the name of the first
abbrev pub AreOfOne : List PublicKey → ℕ → ℕ → Type 0
AreOfOne keys start end = (place : ℕ) → start ≤ place → place < end → name_at keys place ≡ name_at keys start

-- the key with the index `end`, if there is one, has another name than the one with the index `start`
abbrev pub IsOfAnother : List PublicKey → ℕ → ℕ → Type 0
IsOfAnother keys start end = end < length keys → name_at keys end ≢ name_at keys start

-- the text spells the address
abbrev pub IsAddressOf : Bytes → Url → Type 0
IsAddressOf text url = IsUrl text url.authority.now url.host.now url.port url.prefix.now
