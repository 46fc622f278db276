-- How a link changes the heads of origins. H is the digest function.
use Rattle.std.specs.Prelude.{◌≡◌, ◌≢◌, ℕ, ◌⊎◌, Bool, true, false, List, [], ◌∷◌, ◌++◌, ⊤, Result, Ok, Err, Some, map, slice_get, slice_set}
use Rattle.tl_hash.specs.Bytes.{Bytes, Digest}
use Rattle.tl_proof.specs.Acceptance.{Step}
use Rattle.tl_witness.specs.Chain.{Follows, TreeHead, first_head, head_after}
use Rattle.tl_logs.specs.State.{OriginHead, origin_head}
use Rattle.tl_logs.specs.declared.taking.LinkFault.{LinkFault}
use Rattle.tl_logs.specs.declared.taking.LinkFault.TheVariants.{Broken, OutOfMemory}

-- the origins of heads
abbrev pub head_origins : List OriginHead → List Bytes
head_origins heads = map (λ o. o.origin) heads

-- the origin has this head, at this position
abbrev pub HasHead : List OriginHead → ℕ → Bytes → TreeHead → Type 0
HasHead heads place origin head = slice_get heads place ≡ Some (origin_head origin head)

-- the origin has no head
abbrev pub HasNone : List OriginHead → Bytes → Type 0
HasNone heads origin = (place : ℕ) → slice_get (head_origins heads) place ≢ Some origin

-- a head moves to where a step leads if the step follows it, and else stays
abbrev pub MovesOne : Digest → Step → OriginHead → OriginHead → Bool → Type 0
MovesOne H step old new true = Follows H old.head step × (new ≡ origin_head old.origin (head_after step))
MovesOne H step old new false = ¬ (Follows H old.head step) × (new ≡ old)

-- the step follows the head of its origin, and replaces it by the head that it leads to
abbrev pub MovesHead : Digest → Bytes → Step → List OriginHead → List OriginHead → Type 0
MovesHead H origin step old new =
    (place : ℕ) × (head : TreeHead) × HasHead old place origin head × Follows H head step
    × (new ≡ slice_set old place (origin_head origin (head_after step)))

-- the origin has no head, the step follows the first head, and the head that it leads to is added at the end
abbrev pub AddsHead : Digest → Bytes → Step → List OriginHead → List OriginHead → Type 0
AddsHead H origin step old new =
    HasNone old origin × Follows H (first_head H) step × (new ≡ old ++ origin_head origin (head_after step) ∷ [])

-- the step doesn't follow the head of its origin or, if that has none, the first head
abbrev pub BreaksHead : Digest → Bytes → Step → List OriginHead → Type 0
BreaksHead H origin step old =
    ((place : ℕ) × (head : TreeHead) × HasHead old place origin head × ¬ (Follows H head step))
    ⊎ (HasNone old origin × ¬ (Follows H (first_head H) step))

-- a link is taken; or it breaks the chain of its origin; or memory ran out
abbrev pub TakesLink : Digest → Bytes → Step → List OriginHead → List OriginHead → Result (Unit {0}) LinkFault → Type 0
TakesLink H origin step old new (Ok done) = MovesHead H origin step old new ⊎ AddsHead H origin step old new
TakesLink H origin step old new (Err Broken) = BreaksHead H origin step old
TakesLink H origin step old new (Err OutOfMemory) = ⊤
