use Rattle.std.proofs.Common.{◌∙◌, ◌≡◌, ◌++◌, ◌∷◌, [], List, ℕ, length, vec_items, sym, ap, subst, arith, Some}
use Rattle.sha2.specs.Sha256.{sha256}
use Rattle.tl_tile.specs.RightEdge.{IsEdgeOf}
use Rattle.tl_command.proofs.GrowingLemmas.{told_was, told_none, push_long, push_short, long_tells, short_tells}
use Rattle.tl_command.proofs.growing.Growing.log_line.Goals as goal

pub returns-then-len-eq-MOST_KEPT-clause-told : goal.returns-then-len-eq-MOST_KEPT-clause-told
returns-then-len-eq-MOST_KEPT-clause-told g c = λ lines last told kept.
    let was = told_was c.args.self.now lines c.requires.none told in
    let full : length (vec_items c.args.self.now.line) ≡ 65536 = omega (arith, c.args.self.now.line.ok.0, c.len.ensures, c.if-len-eq-MOST_KEPT.true) in
    push_long lines last was.0 (long_tells last (vec_items c.args.self.now.line) kept full) ∙ ap (λ (n : ℕ). Some n) (was.1.0 ∙ sym c.size.ensures)

pub returns-clause-told : goal.returns-clause-told
returns-clause-told g c = λ lines last told kept.
    let was = told_was c.args.self.now lines c.requires.none told in
    let short = short_tells last (vec_items c.args.self.now.line) kept (λ e. c.if-len-eq-MOST_KEPT.false (omega (arith, e, c.args.self.now.line.ok.0, c.len.ensures))) in
    told_none c.args.self.now.too_long _ _ c.requires.none (
      push_short lines last was.0 short.0,
      subst (λ (t : List ℕ). IsEdgeOf c.push.new.self sha256 (lines ++ t ∷ [])) (c.as_slice.ensures.value ∙ short.1) (c.in_ok-push.ensures.entry lines was.1),
    )
