use Rattle.std.proofs.Common.{refl, inl, inr}
use Rattle.std.proofs.lemmas.Result.{IfOk-weaker}
use Rattle.tl_witness.proofs.origin_state.Origin.answer.Goals as goal

pub returns-in-Ok-false-clause-ok : goal.returns-in-Ok-false-clause-ok
returns-in-Ok-false-clause-ok g c =
    let opens = rw c.as_slice.ensures.value at c.in-Ok-false.ensures in
    inl (λ is. (let opened = opens.1 is in let shut = c.in-Ok-false.field-0-test in absurd cc), (c.refusal.ensures.status, c.refusal.ensures.body, (refl, refl)))

pub returns-clause-ok : goal.returns-clause-ok
returns-clause-ok g c =
    let opens = rw c.as_slice.ensures.value at c.in-Ok-true.ensures in
    IfOk-weaker c.settle.result _ _ (λ reply decided. inr (opens.0 c.in-Ok-true.field-0-test, decided)) c.settle.ensures.ok
