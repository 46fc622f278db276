use Rattle.std.proofs.Common.{◌++◌, ◌∷◌, [], sym, ap, ◌∙◌, subst, arith}
use Rattle.std.proofs.lemmas.Grind.{common_steps}
use Rattle.sha2.specs.Sha256.{sha256}
use Rattle.tl_tile.specs.Bundle.{bundled_entry}
use Rattle.tl_publisher.specs.Grown.{Grown, IsGrown}
use Rattle.tl_publisher.proofs.Grows.{grown_more, four_bundled}
use Rattle.tl_publisher.proofs.growth.Growth.append_four.Goals as goal

pub returns-clause-grown : goal.returns-clause-grown
returns-clause-grown g c start entries is =
    let before : Grown = record { edge = c.self.inside.edge; bundle = c.self.inside.bundle.items; waiting = c.self.inside.waiting.items } in
    let own : IsGrown sha256 start entries before = subst (IsGrown sha256 start entries) (sym c.self.view_is) is in
    let a = c.args.first.now in
    let b = c.args.second.now in
    let d = c.args.third.now in
    let e = c.args.fourth.now in
    let size = ap (λ (h : Grown). h.edge.size) c.self.view_is in
    let pushed =
    c.push_reserved_entry-4.ensures.pushed
    ∙ ap (λ t. t ++ bundled_entry e) (c.push_reserved_entry-3.ensures.pushed
    ∙ ap (λ t. t ++ bundled_entry d) (c.push_reserved_entry-2.ensures.pushed
    ∙ ap (λ t. t ++ bundled_entry b) (c.push_reserved_entry.ensures.pushed
    ∙ ap (λ t. t ++ bundled_entry a) c.in_ok-reserve.ensures.items)))
    ∙ four_bundled before.bundle a b d e in
    grown_more sha256 start entries (a ∷ b ∷ d ∷ e ∷ []) before own c.push_four.new.self c.push_reserved_entry-4.new.bundle.items before.waiting
    (c.in_ok-push_four.ensures.entries entries own.edge)
    (omega (arith, own.edge.0, size, c.requires.within))
    pushed
    (λ i. before.waiting)

pub push_four-requires : goal.push_four-requires
push_four-requires g c = grind (arith, common_steps)

pub push_reserved_entry-requires-2-clause-room : goal.push_reserved_entry-requires-2-clause-room
push_reserved_entry-requires-2-clause-room g c = grind (arith, common_steps)

pub push_reserved_entry-requires-3-clause-room : goal.push_reserved_entry-requires-3-clause-room
push_reserved_entry-requires-3-clause-room g c = grind (arith, common_steps)

pub push_reserved_entry-requires-4-clause-room : goal.push_reserved_entry-requires-4-clause-room
push_reserved_entry-requires-4-clause-room g c = grind (arith, common_steps)

pub returns-clause-size : goal.returns-clause-size
returns-clause-size g c = grind (arith, common_steps)
