use Rattle.std.proofs.Common.{refl, ap, sym, ◌∙◌, true≢false}
use Rattle.tl_publisher.specs.Running.{Running}
use Rattle.tl_publisher.proofs.Proposals.{none_published, some_published}
use Rattle.tl_publisher.proofs.run.Run.is_unpublished.Goals as goal

pub returns-in-None : goal.returns-in-None
returns-in-None g c = (
  (λ _. ap (λ (r : Running _). r.past.log) (sym c.self.view_is) ∙ none_published c.self.inside.board c.in-None.ensures.shown c.in-None.ensures.head),
  (λ _. refl),
)

pub returns-in-Some : goal.returns-in-Some
returns-in-Some g c = (
  (λ wrong. absurd (true≢false (sym wrong))),
  (λ none. absurd (some_published c.self.inside.board _ c.in-Some.ensures.shown c.in-Some.ensures.head (ap (λ (r : Running _). r.past.log) c.self.view_is ∙ none))),
)
