-- What a shelf keeps, and how its calls change it.
use Rattle.std.specs.Prelude.{◌≡◌, ℕ, ◌<◌, ◌-◌, ◌^◌, ◌⊎◌, List, [], ◌∷◌, ◌++◌, Option, Some, None, Contains}
use Rattle.tl_tile.specs.declared.resource.Resource.{Resource}
use Rattle.tl_archive.specs.Partials.{IsPartialOf}

-- a resource and its bytes
abbrev pub Item : Type 0
Item = Resource × List ℕ

-- what is there: the bytes of each resource, if there are any
abbrev pub Held : Type 0
Held = Resource → Option (List ℕ)

-- what is there, and what is staged: written, but not under its resource yet
pub record Kept : Type 0 where
  pub held : Held
  pub staged : List Item

-- each resource has what it had before, or the bytes of one of the items
abbrev pub Between : Held → List Item → Held → Type 0
Between before items after =
    (r : Resource) → (after r ≡ before r) ⊎ ((bytes : List ℕ) × (after r ≡ Some bytes) × Contains items (r, bytes))

-- each resource of the items has the bytes of one of the items
abbrev pub HasPut : List Item → Held → Type 0
HasPut items held = (r : Resource) (bytes : List ℕ) → Contains items (r, bytes)
    → (own : List ℕ) × (held r ≡ Some own) × Contains items (r, own)

-- what a crash may leave: what was there, with any part of what is staged
abbrev pub MayLeave : Kept → Held → Type 0
MayLeave kept left = Between kept.held kept.staged left

-- the bytes are staged, and nothing else changed
pub record Stages (a b : Kept) (r : Resource) (bytes : List ℕ) : Type 0 where
  pub held : b.held ≡ a.held
  pub staged : b.staged ≡ a.staged ++ (r, bytes) ∷ []

-- a part of what was staged is there, nothing else changed, and nothing is staged any more
pub record Unstages (a b : Kept) : Type 0 where
  pub others : Between a.held a.staged b.held
  pub staged : b.staged ≡ []

-- all that was staged is there, nothing else changed, and nothing is staged any more
pub record Settles (a b : Kept) : Type 0 where
  pub unstages : Unstages a b
  pub there : HasPut a.staged b.held

-- some partial ones of the full tile or bundle may be gone, and nothing else changed
pub record Removes (full : Resource) (a b : Kept) : Type 0 where
  pub others : (r : Resource) → (b.held r ≡ a.held r) ⊎ (IsPartialOf full r × (b.held r ≡ None))
  pub staged : b.staged ≡ a.staged

-- no partial one of the full tile or bundle is there
abbrev pub LacksPartials : Resource → Held → Type 0
LacksPartials full held = (r : Resource) → IsPartialOf full r → held r ≡ None

-- one more failure was counted, unless the count has reached its end
abbrev pub Fails : ℕ → ℕ → Type 0
Fails before after = (before < after) ⊎ ((before ≡ 2 ^ 64 - 1) × (after ≡ 2 ^ 64 - 1))
