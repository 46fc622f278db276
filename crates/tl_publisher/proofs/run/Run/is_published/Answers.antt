use Rattle.std.proofs.Common.{subst, nat_eq, arith}
use Rattle.std.proofs.lemmas.Grind.{common_steps}
use Rattle.std.specs.Prelude.{IsTrue}
use Rattle.tl_sequencer.specs.Log.{entries_of}
use Rattle.tl_publisher.specs.Publishing.{EndsWith}
use Rattle.tl_publisher.specs.Running.{Running}
use Rattle.tl_publisher.proofs.Runs.{published_test}
use Rattle.tl_publisher.proofs.run.Run.is_published.Goals as goal

pub returns-in-Some : goal.returns-in-Some
returns-in-Some g c =
    subst (λ (r : Running _). (IsTrue (nat_eq c.in-Some.head.size c.len.result) → EndsWith r.past.log (entries_of r.log)) × (EndsWith r.past.log (entries_of r.log) → IsTrue (nat_eq c.in-Some.head.size c.len.result))) c.self.view_is
    (published_test c.self.inside.board (entries_of c.self.inside.log) c.in-Some.head.size c.len.result c.in-Some.head.root c.in-Some.ensures.shown c.self.invariant.published c.in-Some.ensures.head c.len.ensures.len)

pub returns-in-None : goal.returns-in-None
returns-in-None g c = grind (arith, common_steps)
