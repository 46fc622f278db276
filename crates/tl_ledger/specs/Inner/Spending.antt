-- Removing partial tiles and bundles step by step.
use Rattle.std.specs.Prelude.{◌≡◌, ℕ, ◌+◌, ◌<◌, ◌≤◌, List, ◌++◌, None}
use Rattle.std.specs.List.{All}
use Rattle.tl_tile.specs.declared.resource.Resource.{Resource}
use Rattle.tl_tile.specs.declared.resource.Resource.TheVariants as resource
use Rattle.tl_archive.specs.Shelves.{Held, Kept}
use Rattle.tl_ledger.specs.Spent.{RemovesSpent}

-- after each step some of the partial tiles and bundles that are spent may be gone, and nothing else has changed
pub record Sheds (size : ℕ) (a b : Kept) (saw sees : List Kept) : Type 0 where
  pub part : RemovesSpent size a b
  pub steps : List Kept
  pub trace : sees ≡ saw ++ steps
  pub each : All (RemovesSpent size a) steps

-- a partial tile at this index of this level or, at the lowest level, a partial bundle at this index
abbrev pub IsPartialAt : ℕ → ℕ → Resource → Type 0
IsPartialAt level index (resource.Tile t) = (t.level ≡ level) × (t.index ≡ index) × (t.width < 256)
IsPartialAt level index (resource.Entries own width) = (level ≡ 0) × (own ≡ index) × (width < 256)
IsPartialAt level index resource.Checkpoint = ⊥

-- no partial tile or bundle is there at this index of this level
abbrev pub LacksAt : ℕ → ℕ → Held → Type 0
LacksAt level index held = (r : Resource) → IsPartialAt level index r → held r ≡ None

-- none is there at any index of the level that became spent while its full tiles grew from `had` to `has`
abbrev pub LacksLevel : ℕ → ℕ → ℕ → Held → Type 0
LacksLevel level had has held = (index : ℕ) → had ≤ index + 1 → index ≤ had → index + 2 ≤ has → LacksAt level index held
