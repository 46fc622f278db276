use Rattle.std.proofs.Common.{ℕ, ◌≤◌, ap, length, subst, ◌∙◌, List, MatchOption}
use Rattle.tl_keepalive.specs.Exchanges.{Exchanges}
use Rattle.tl_keepalive.specs.KeepAlive.{Stays}
use Rattle.tl_keepalive.proofs.exchanges.Exchanges.next_start.Goals as goal

pub returns : goal.returns
returns c =
    subst (λ (l : List ℕ). MatchOption c.next_start.result ((end : ℕ) → ¬ (Stays l c.args.status end)) (λ end. (end ≤ length l) × Stays l c.args.status end))
    (c.as_slice.ensures.value ∙ ap (λ (e : Exchanges). e.came) c.self.view_is) c.next_start.ensures
