-- Partial tiles and bundles that a log no longer needs (C2SP tlog-tiles, "Partial Tiles").
use Rattle.std.specs.Prelude.{◌≡◌, ℕ, ◌+◌, ◌*◌, ◌^◌, ◌<◌, ◌≤◌, ◌⊎◌, List, length, None, Contains}
use Rattle.tl_hash.specs.Bytes.{Digest}
use Rattle.tl_tile.specs.declared.resource.Resource.{Resource}
use Rattle.tl_tile.specs.declared.resource.Resource.TheVariants as resource
use Rattle.tl_log.specs.Histories.{Prefix}
use Rattle.tl_archive.specs.Complete.{IsFor}
use Rattle.tl_archive.specs.Shelves.{Held, Kept}

-- the resource is partial, and a log of `size` entries has the full one and the full one after it
abbrev pub IsSpent : ℕ → Resource → Type 0
IsSpent size (resource.Tile t) = (t.width < 256) × ((t.index + 2) * 256 ^ (t.level + 1) ≤ size)
IsSpent size (resource.Entries index width) = (width < 256) × ((index + 2) * 256 ≤ size)
IsSpent size resource.Checkpoint = ⊥

-- the first entry that the resource is over has an index of at most `size`
abbrev pub BeginsWithin : ℕ → Resource → Type 0
BeginsWithin size (resource.Tile t) = t.index * 256 ^ (t.level + 1) ≤ size
BeginsWithin size (resource.Entries index width) = index * 256 ≤ size
BeginsWithin size resource.Checkpoint = ⊥

-- the resource became spent while the log grew from `from` to `size` entries; with `from` entries the log had a
-- partial one there or was about to begin it
pub record IsSpentSince (from size : ℕ) (r : Resource) : Type 0 where
  pub spent : IsSpent size r
  pub fresh : IsSpent from r → ⊥
  pub begun : BeginsWithin from r

-- some resources that are spent may be gone, and nothing else changed
pub record RemovesSpent (size : ℕ) (a b : Kept) : Type 0 where
  pub others : (r : Resource) → (b.held r ≡ a.held r) ⊎ (IsSpent size r × (b.held r ≡ None))
  pub staged : b.staged ≡ a.staged

-- no resource is there that became spent while the log grew from `from` to `size` entries
abbrev pub LacksSpent : ℕ → ℕ → Held → Type 0
LacksSpent from size held = (r : Resource) → IsSpentSince from size r → held r ≡ None

-- the checkpoint that is there is that of a publication of `size` entries, with all that a client of it needs
abbrev pub IsShown : Digest → List Prefix → ℕ → Held → Type 0
IsShown H history size held = (p : Prefix) × Contains history p × (length p.entries ≡ size) × IsFor H p held
