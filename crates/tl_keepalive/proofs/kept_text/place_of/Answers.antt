use Rattle.std.proofs.Common.{◌≤◌, ap, length, nat_eq, subst, sym, ◌∙◌, List, ℕ}
use Rattle.std.proofs.lemmas.List.{take_rest}
use Rattle.std.specs.List.{starts_with}
use Rattle.tl_keepalive.proofs.Texts.{nowhere, on, out}
use Rattle.tl_keepalive.proofs.kept_text.place_of.Goals as goal

pub loop-at-preserved : goal.loop-at-preserved
loop-at-preserved c =
    on c.args.text.now c.args.bytes.now c.loop-at.at c.loop-at-test.true c.loop-at.invariant
    (ap (λ (l : List ℕ). starts_with nat_eq l c.args.text.now) (sym (take_rest c.args.bytes.now c.loop-at.at)) ∙ (sym c.begins_with.ensures.front ∙ c.if-begins_with.false))

pub returns-then-begins_with : goal.returns-then-begins_with
returns-then-begins_with c =
    let rest = take_rest c.args.bytes.now c.loop-at.at in
    out c.args.text.now c.args.bytes.now c.loop-at.at c.loop-at-test.true c.loop-at.invariant
    (subst (λ (l : List ℕ). length c.args.text.now ≤ length l) rest (c.begins_with.ensures.fits c.if-begins_with.true))
    (ap (λ (l : List ℕ). starts_with nat_eq l c.args.text.now) (sym rest) ∙ (sym c.begins_with.ensures.front ∙ c.if-begins_with.true))

pub returns : goal.returns
returns c = nowhere c.args.text.now c.args.bytes.now c.loop-at.at c.loop-at-test.false c.loop-at.invariant
