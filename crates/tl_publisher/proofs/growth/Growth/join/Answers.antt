use Rattle.std.proofs.Common.{sym, subst, length, ◌++◌, arith}
use Rattle.std.proofs.lemmas.Grind.{common_steps}
use Rattle.sha2.specs.Sha256.{sha256}
use Rattle.tl_publisher.specs.Grown.{Grown, IsGrown}
use Rattle.tl_publisher.proofs.Joined.{grown_joined}
use Rattle.tl_publisher.proofs.growth.Growth.join.Goals as goal

pub returns-clause-grown : goal.returns-clause-grown
returns-clause-grown g c start entries more is next =
    let before : Grown = record { edge = c.self.inside.edge; bundle = c.self.inside.bundle.items; waiting = c.self.inside.waiting.items } in
    let after : Grown = record { edge = c.next.inside.edge; bundle = c.next.inside.bundle.items; waiting = c.next.inside.waiting.items } in
    let own : IsGrown sha256 start entries before = subst (IsGrown sha256 start entries) (sym c.self.view_is) is in
    let its : IsGrown sha256 (length entries) (entries ++ more) after = subst (IsGrown sha256 (length entries) (entries ++ more)) (sym c.next.view_is) next in
    grown_joined sha256 start entries more before after own its c.append.new.self.items c.in_ok-append.ensures.items

pub returns-clause-size : goal.returns-clause-size
returns-clause-size g c = grind (arith, common_steps)
