use Rattle.std.proofs.Common.{Err, ap, refl, inl, arith}
use Rattle.std.proofs.lemmas.Grind.{common_steps}
use Rattle.tl_witness.proofs.origin_state.Origin.attest.Goals as goal

pub returns-in-Ok-None-clause-ok : goal.returns-in-Ok-None-clause-ok
returns-in-Ok-None-clause-ok g c =
    let may_fail = rw c.in-Ok-None.field-0-is at c.in-Ok-None.ensures in
    inl (may_fail, (c.refusal.ensures.status, c.refusal.ensures.body, (refl, refl)))

pub keep-requires-clause-line : goal.keep-requires-clause-line
keep-requires-clause-line g c = rw c.as_str.ensures.value c.requires.line

pub returns-clause-err : goal.returns-clause-err
returns-clause-err g c = (c.in-Err-OutOfMemory.ensures.no_memory (ap Err c.in-Err-OutOfMemory.field-0-is), c.in-Err-OutOfMemory.ensures.err)

pub returns-clause-ok : goal.returns-clause-ok
returns-clause-ok g c = grind (arith, common_steps)

pub returns-in-Err-SaveFailed-clause-err : goal.returns-in-Err-SaveFailed-clause-err
returns-in-Err-SaveFailed-clause-err g c = grind (arith, common_steps)

pub returns-in-Err-clause-err : goal.returns-in-Err-clause-err
returns-in-Err-clause-err g c = grind (arith, common_steps)

pub returns-in-Err-clause-ok : goal.returns-in-Err-clause-ok
returns-in-Err-clause-ok g c = grind (arith, common_steps)

pub returns-in-Ok-None-clause-err : goal.returns-in-Ok-None-clause-err
returns-in-Ok-None-clause-err g c = grind (arith, common_steps)

pub returns-in-Ok-clause-err : goal.returns-in-Ok-clause-err
returns-in-Ok-clause-err g c = grind (arith, common_steps)

pub returns-then-link-head-clause-err : goal.returns-then-link-head-clause-err
returns-then-link-head-clause-err g c = grind (arith, common_steps)
