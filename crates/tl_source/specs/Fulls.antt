-- Full tiles and bundles in place of partial ones, which a log may remove (C2SP tlog-tiles, "Partial Tiles").
use Rattle.std.specs.Prelude.{◌≡◌, ◌⊎◌, ℕ, ◌*◌, List, take}
use Rattle.tl_hash.specs.Bytes.{Bytes}
use Rattle.tl_tile.specs.declared.resource.Resource.{Resource}
use Rattle.tl_tile.specs.declared.resource.Resource.TheVariants as resource
use Rattle.tl_tile.specs.Bundle.{AreEntries, bundle_text}
use Rattle.tl_tile.specs.TileText.{full_tile}
use Rattle.tl_client.specs.Blame.{IsNoBundle}

-- the full tile or bundle that a partial one is the beginning of
abbrev pub full_of : Resource → Resource
full_of (resource.Tile t) = resource.Tile (full_tile t.level t.index)
full_of (resource.Entries index width) = resource.Entries index 256
full_of resource.Checkpoint = resource.Checkpoint

-- the text is the first `width` entries of a bundle of 256; bytes that are no such bundle are left as they are
abbrev pub IsFrontBundle : ℕ → Bytes → Bytes → Type 0
IsFrontBundle width whole text =
    ((entries : List Bytes) × AreEntries 256 entries × (whole ≡ bundle_text entries) × (text ≡ bundle_text (take width entries)))
    ⊎ (IsNoBundle whole 256 × (text ≡ whole))

-- the text is what a partial tile or bundle has of the full one's bytes: its first hashes or entries
abbrev pub IsFrontOf : Resource → Bytes → Bytes → Type 0
IsFrontOf (resource.Tile t) whole text = text ≡ take (32 * t.width) whole
IsFrontOf (resource.Entries index width) whole text = IsFrontBundle width whole text
IsFrontOf resource.Checkpoint whole text = text ≡ whole

-- What may be answered if full ones replace partial ones that are gone: what the source may answer or, for a resource
-- that it may lack, the beginning of what it may answer for the full one.
abbrev pub may_answer_front : (Resource → Bytes → Type 0) → (Resource → Type 0) → Resource → Bytes → Type 0
may_answer_front answers lacks r text =
    answers r text ⊎ (lacks r × ((whole : Bytes) × answers (full_of r) whole × IsFrontOf r whole text))
