use Rattle.std.proofs.Common.{◌≡◌, [], ◌∷◌, ◌++◌, drop, fold, refl, sym, ap, ◌∙◌, subst, arith}
use Rattle.std.proofs.lemmas.Grind.{common_steps}
use Rattle.left_right.specs.Sides.{view}
use Rattle.sha2.specs.Sha256.{sha256}
use Rattle.tl_publisher.specs.Pasts.{Past}
use Rattle.tl_publisher.specs.Boards.{Board}
use Rattle.tl_publisher.specs.Stages.{Held, Step, visible, laid, turned, moved, IsShown, IsChangeFor}
use Rattle.tl_publisher.specs.Rules.{knows}
use Rattle.tl_publisher.proofs.Stages.{shows_next, from-ok, rests-turned}
use Rattle.tl_publisher.proofs.board_writer.BoardWriter.show_change.Goals as goal

pub shown-writer-requires-clause-shown : goal.shown-writer-requires-clause-shown
shown-writer-requires-clause-shown g c =
    let h : Held = c.self.inside.writer.desk.shown.value in
    let own = c.self.invariant in
    let q = g.N.Next.next in
    let l = from-ok _ _ c.in-Ok.is c.lay-writer.ensures.ok in
    let to : fold moved c.logged-writer.result.desk.shown.value (drop c.logged-writer.result.behind c.logged-writer.result.log.items) ≡ turned (laid h c.args.change) c.added-history.result.past =
    rw (c.logged-writer.ensures.desk, c.logged-writer.ensures.pending, l.1, l.0, c.new-step.ensures, c.new.ensures, c.again-2.ensures, c.past-3.ensures) refl in
    let made = shows_next sha256 h q c.args.change c.added-history.result.past own.2.shown
    (subst (λ (b : Board). IsChangeFor sha256 b.past.log q c.args.change) (sym c.self.view_is) c.requires.change)
    (c.added-history.ensures.added ∙ ap (λ (p : Past). p.log ++ q ∷ []) (sym own.0)) in
    subst (λ (x : Held). IsShown sha256 (visible x)) (sym to) made

pub invariant_of-board-2 : goal.invariant_of-board-2
invariant_of-board-2 g c =
    let h : Held = c.self.inside.writer.desk.shown.value in
    let own = c.self.invariant in
    let q = g.N.Next.next in
    let l = from-ok _ _ c.in-Ok.is c.lay-writer.ensures.ok in
    let to : fold moved c.logged-writer.result.desk.shown.value (drop c.logged-writer.result.behind c.logged-writer.result.log.items) ≡ turned (laid h c.args.change) c.added-history.result.past =
    rw (c.logged-writer.ensures.desk, c.logged-writer.ensures.pending, l.1, l.0, c.new-step.ensures, c.new.ensures, c.again-2.ensures, c.past-3.ensures) refl in
    let made = shows_next sha256 h q c.args.change c.added-history.result.past own.2.shown
    (subst (λ (b : Board). IsChangeFor sha256 b.past.log q c.args.change) (sym c.self.view_is) c.requires.change)
    (c.added-history.ensures.added ∙ ap (λ (p : Past). p.log ++ q ∷ []) (sym own.0)) in
    let is = c.shown-writer.ensures.value ∙ to in (
      ap (λ (x : Held). x.past) is,
      c.shown-writer.ensures.view ∙ ap (λ d. view d.place) c.logged-writer.ensures.desk ∙ c.lay-writer.ensures.view ∙ own.1 ∙ ap knows (sym c.added-history.ensures.book),
      rw (is, c.shown-writer.ensures.pending) (rests-turned sha256 (laid h c.args.change) c.added-history.result.past made),
    )

pub lay-writer-requires-clause-laid : goal.lay-writer-requires-clause-laid
lay-writer-requires-clause-laid g c = (c.args.change, ap (λ (s : Step). s.change) c.new-step.ensures)

pub invariant_of-board : goal.invariant_of-board
invariant_of-board g c = grind (arith, common_steps)
