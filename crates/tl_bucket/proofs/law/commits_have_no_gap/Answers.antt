use Rattle.std.proofs.Common.{◌≡◌, ◌-◌, inl, inr, List, Some, ap, ◌∙◌, arith}
use Rattle.std.proofs.lemmas.Bool.{cases_eq}
use Rattle.tl_hash.specs.Bytes.{Bytes}
use Rattle.tl_bucket.proofs.Commits.{is_there}
use Rattle.tl_bucket.proofs.Last.{last_led}
use Rattle.tl_bucket.proofs.Sound.{sound_led}
use Rattle.tl_bucket.proofs.law.commits_have_no_gap.Goals as goal

pub returns-clause-before : goal.returns-clause-before
returns-clause-before c = λ setting w leads m n batch some le is. elim (cases_eq m n) as (λ _. (own : List Bytes) × (w.store.commits m ≡ Some own)) [
  | inl same ↦ (batch, ap w.store.commits same ∙ is)
  | inr other ↦
      let before = (sound_led setting w leads).commits n batch is in
      is_there w.store (n - 1) m before.1 before.2 some (omega (arith, le, other))
]

pub returns-clause-last : goal.returns-clause-last
returns-clause-last c = λ setting w leads. last_led setting w leads
