-- The entry bundles of a log (C2SP tlog-tiles, "Log Entries").
use Rattle.std.specs.Prelude.{ℕ, ◌+◌, ◌*◌, ◌^◌, ◌<◌, ◌≤◌, List, take, drop}
use Rattle.tl_hash.specs.Bytes.{Bytes}
use Rattle.tl_tile.specs.Needed.{bundle_width}

-- a log of this size, which is at most 2^62, has the bundle with this index
pub record HasBundle (size bundle : ℕ) : Type 0 where
  pub within : 256 * bundle < size
  pub limit : size ≤ 2 ^ 62

-- the entries of the bundle, out of all entries of a log of this size
abbrev pub bundle_entries : ℕ → ℕ → List Bytes → List Bytes
bundle_entries size bundle all = take (bundle_width size bundle) (drop (256 * bundle) all)

-- the entry with this index is in the bundle
pub record IsInBundle (size bundle index : ℕ) : Type 0 where
  pub from : 256 * bundle ≤ index
  pub below : index < 256 * bundle + bundle_width size bundle
