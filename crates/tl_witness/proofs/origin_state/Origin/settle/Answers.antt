use Rattle.std.proofs.Common.{◌≡◌, ◌∙◌, refl, sym, rules, arith, inr}
use Rattle.std.proofs.lemmas.Grind.{common_steps}
use Rattle.std.proofs.lemmas.Result.{IfOk-weaker}
use Rattle.tl_witness.proofs.origin_state.Origin.settle.Goals as goal

pub returns-clause-ok : goal.returns-clause-ok
returns-clause-ok g c =
    let size = c.head-size.ensures.size in
    let one : (c.args.link.size ≡ c.head-size.result.0 → c.args.link.root ≡ c.head-size.result.1) = search rules in
    IfOk-weaker c.attest.result _ _ (λ reply settled. inr (
      omega (arith, c.if-link-old.false),
      inr (
        c.if-old-size.false ∙ size,
        inr (
          λ e. one (e ∙ sym size) ∙ c.head-size.ensures.root,
          inr (c.if-not-accepts.ensures.0 refl, settled),
        ),
      ),
    )) c.attest.ensures.ok

pub attest-requires-clause-follows : goal.attest-requires-clause-follows
attest-requires-clause-follows g c = grind (arith, common_steps)

pub attest-requires-clause-least : goal.attest-requires-clause-least
attest-requires-clause-least g c = grind (arith, common_steps)

pub returns-clause-err : goal.returns-clause-err
returns-clause-err g c = grind (arith, common_steps)

pub returns-then-link-old-clause-err : goal.returns-then-link-old-clause-err
returns-then-link-old-clause-err g c = grind (arith, common_steps)

pub returns-then-link-old-clause-ok : goal.returns-then-link-old-clause-ok
returns-then-link-old-clause-ok g c = grind (arith, common_steps)

pub returns-then-not-accepts-clause-err : goal.returns-then-not-accepts-clause-err
returns-then-not-accepts-clause-err g c = grind (arith, common_steps)

pub returns-then-old-size-clause-err : goal.returns-then-old-size-clause-err
returns-then-old-size-clause-err g c = grind (arith, common_steps)
