-- Hashes of neighbouring subtrees of one width, and of what follows them (RFC 6962, section 2.1).
use Rattle.std.specs.Prelude.{◌≡◌, ℕ, ◌+◌, ◌-◌, ◌*◌, ◌<◌, ◌≤◌, List, length, take, drop, map}
use Rattle.std.specs.Int.{IsPowerOfTwo}
use Rattle.std.specs.List.{range_with_len}
use Rattle.tl_hash.specs.Bytes.{Bytes, Digest}
use Rattle.tl_hash.specs.Tree.{tree_hash}

-- the entries from `start` up to `end`
abbrev pub part : ℕ → ℕ → List Bytes → List Bytes
part start end entries = take (end - start) (drop start entries)

-- the hash of the entries under a place, `width` under each
abbrev pub place_hash : Digest → List Bytes → ℕ → ℕ → Bytes
place_hash H entries width place = tree_hash H (take width (drop (place * width) entries))

-- neighbouring places from this one on, over `width` entries each, and what follows them up to the entry `end`
pub record Run : Type 0 where
  pub width : ℕ
  pub place : ℕ
  pub end : ℕ

-- the hashes of the places of a run, and a last hash of what follows them, which is at least one entry and at most
-- `width`
pub record IsRun (H : Digest) (entries : List Bytes) (run : Run) (hashes : List Bytes) (last : Bytes) : Type 0 where
  pub power : IsPowerOfTwo run.width
  pub within : run.end ≤ length entries
  pub some : (run.place + length hashes) * run.width < run.end
  pub most : run.end ≤ (run.place + length hashes + 1) * run.width
  pub hashes_are : hashes ≡ map (place_hash H entries run.width) (range_with_len run.place (length hashes))
  pub last_is : last ≡ tree_hash H (part ((run.place + length hashes) * run.width) run.end entries)
