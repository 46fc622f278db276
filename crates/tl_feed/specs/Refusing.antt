-- Why a witness gave no cosignature.
use Rattle.std.specs.Prelude.{ℕ}
use Rattle.tl_hash.specs.Bytes.{Bytes}
use Rattle.tl_hash.specs.declared.head.Head.{Head}
use Rattle.tl_tile.specs.declared.resource.Resource.{Resource}
use Rattle.tl_feed.specs.Growing.{RefusesGrowthFrom}
use Rattle.tl_feed.specs.declared.unasked.Unasked.{Unasked}
use Rattle.tl_feed.specs.declared.unasked.Unasked.TheVariants.{Ask, Device, Growth, Other, Restless}

-- a fault that asking a witness may have: it can't be reached, or its answer is a refusal or can't be read
abbrev pub IsOfAsking : Unasked → Type 0
IsOfAsking (Device fault) = Unit {0}
IsOfAsking (Ask fault) = Unit {0}
IsOfAsking (Growth fault) = ⊥
IsOfAsking Restless = ⊥
IsOfAsking Other = ⊥

-- `Growth` is a fault only if the proof to this head can't be made, from a size that the witness was known to have or
-- answered with; any other fault may come
abbrev pub IsFairlyTold : (Resource → Bytes → Type 0) → (Resource → Type 0) → Head → Unasked → Type 0
IsFairlyTold answers lacks head (Device fault) = Unit {0}
IsFairlyTold answers lacks head (Ask fault) = Unit {0}
IsFairlyTold answers lacks head (Growth fault) = (old : ℕ) × RefusesGrowthFrom answers lacks head old fault
IsFairlyTold answers lacks head Restless = Unit {0}
IsFairlyTold answers lacks head Other = Unit {0}
