use Rattle.std.proofs.Common.{◌≡◌, ◌∙◌, List, ℕ, true, false, ap, sym, subst, length, arith}
use Rattle.std.proofs.lemmas.Grind.{common_steps}
use Rattle.tl_lines.specs.Lines.{HasNoNewline, Uncut, one_more}
use Rattle.tl_lines.specs.Inner.Cutting.{EndsAt}
use Rattle.tl_lines.proofs.CuttingLemmas.{tail_found, tail_kept}
use Rattle.tl_lines.proofs.lines.Lines.skip.Goals as goal

pub returns-in-Some-clause-tells : goal.returns-in-Some-clause-tells
returns-in-Some-clause-tells g c =
    let u = c.args.self.now in
    let tail : u.in_tail ≡ true = sym (ap (λ (x : Uncut). x.in_tail) c.self.view_is) ∙ c.if-not-self.false in
    tail_found u c.end_tail.new.self c.in-Some.end tail (c.waiting.ensures.kept.left_out tail) (subst (λ (w : List ℕ). EndsAt w c.in-Some.end) c.waiting.ensures.value c.in-Some.ensures)
    (c.end_tail.ensures ∙ ap (λ (x : Uncut). record x { number = one_more x.number; in_tail = false }) c.pass.ensures)

pub returns-in-None-clause-tells : goal.returns-in-None-clause-tells
returns-in-None-clause-tells g c =
    let u = c.args.self.now in
    let tail : u.in_tail ≡ true = sym (ap (λ (x : Uncut). x.in_tail) c.self.view_is) ∙ c.if-not-self.false in
    (tail_kept u c.pass-in-None.new.self (length c.waiting-count.result.now) tail (c.waiting.ensures.kept.left_out tail) (subst HasNoNewline c.waiting.ensures.value c.in-None.ensures)
    (ap (λ (w : List ℕ). length w) c.waiting-count.ensures.value) c.pass-in-None.ensures).0

pub returns-in-None-clause-shorter : goal.returns-in-None-clause-shorter
returns-in-None-clause-shorter g c = grind (arith, common_steps)

pub returns-in-None-clause-tail : goal.returns-in-None-clause-tail
returns-in-None-clause-tail g c = grind (arith, common_steps)

pub returns-in-Some-clause-shorter : goal.returns-in-Some-clause-shorter
returns-in-Some-clause-shorter g c = grind (arith, common_steps)
