-- What contracts see of a saver. A witness saves each link before it cosigns (C2SP tlog-witness, "add-checkpoint":
-- persist before responding).
use Rattle.std.specs.Prelude.{◌≡◌, ℕ, ◌<◌, ◌-◌, ◌^◌, ◌⊎◌, List, [], ◌∷◌, ◌++◌}
use Rattle.tl_hash.specs.Bytes.{Bytes}
use Rattle.tl_proof.specs.Acceptance.{Step}

-- how many saves failed, and the origins and steps that were saved, in order
pub record Saved : Type 0 where
  pub failures : ℕ
  pub links : List (Bytes × Step)

-- this step of this origin was saved, once and after the others, and no failure was counted
abbrev pub Keeps : Saved → Saved → Bytes → Step → Type 0
Keeps before after origin step = (after.failures ≡ before.failures) × (after.links ≡ before.links ++ (origin, step) ∷ [])

-- nothing was saved, and one more failure was counted, unless the count has reached its end
abbrev pub Fails : Saved → Saved → Type 0
Fails before after = ((before.failures < after.failures) ⊎ (before.failures ≡ 2 ^ 64 - 1)) × (after.links ≡ before.links)
