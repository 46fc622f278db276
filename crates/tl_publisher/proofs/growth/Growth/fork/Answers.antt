use Rattle.std.proofs.Common.{sym, ◌∙◌, subst, arith}
use Rattle.std.proofs.lemmas.Grind.{common_steps}
use Rattle.sha2.specs.Sha256.{sha256}
use Rattle.tl_publisher.specs.Grown.{Grown, IsGrown}
use Rattle.tl_publisher.proofs.Joined.{grown_forked}
use Rattle.tl_publisher.proofs.growth.Growth.fork.Goals as goal

pub returns-clause-grown : goal.returns-clause-grown
returns-clause-grown g c start entries is =
    let before : Grown = record { edge = c.self.inside.edge; bundle = c.self.inside.bundle.items; waiting = c.self.inside.waiting.items } in
    let own : IsGrown sha256 start entries before = subst (IsGrown sha256 start entries) (sym c.self.view_is) is in
    grown_forked sha256 start entries before c.in_ok-copy.field-0 c.in_ok-from_slice.field-0.items c.new.result.items own c.in_ok-copy.ensures.size c.in_ok-copy.ensures.kept (c.in_ok-from_slice.ensures.items ∙ c.deref.ensures.value) c.new.ensures.items

pub returns-clause-size : goal.returns-clause-size
returns-clause-size g c = grind (arith, common_steps)
