use Rattle.std.proofs.Common.{[], arith}
use Rattle.std.proofs.lemmas.Grind.{common_steps}
use Rattle.tl_sequencer.proofs.Logs.{Gives-takes, same-rings}
use Rattle.tl_sequencer.proofs.Held.{Gives-held, fits-log, same-held}
use Rattle.tl_sequencer.proofs.intake.Intake.take.Goals as goal

pub invariant_of-self : goal.invariant_of-self
invariant_of-self g c =
    let same = rw c.in_default.is at c.take_noted.ensures.err in
    same-held _ _ _ _ _ _ _ _ _ c.index_mut-from.ensures.value same.0 same.1 same.2 _ c.self.invariant

pub invariant_of-self-2 : goal.invariant_of-self-2
invariant_of-self-2 g c = Gives-held _ _ _ _ _ _ _ _ _ _ (omega arith) c.index_mut-from.ensures.value c.take_noted.ensures.drained c.self.invariant _ (omega (arith, c.in-Ok.ensures.most)) c.in-Ok.ensures.taken

pub returns-clause-rings : goal.returns-clause-rings
returns-clause-rings g c = rw (← c.self.view_is) (same-rings c.self.inside.lanes.items c.args.lane c.index_mut-from.result.now c.take_noted.new.self c.index_mut-from.ensures.value c.take_noted.ensures.ring)

pub returns-clause-taken : goal.returns-clause-taken
returns-clause-taken g c = rw (← c.self.view_is) (Gives-takes [] _ _ _ _ _ _ _ _ _ (omega arith) c.index_mut-from.ensures.value _ (fits-log _ _ _ _ _ c.self.invariant c.in-Ok.n (omega (arith, c.in-Ok.ensures.most))) c.in-Ok.ensures.taken)

pub returns-clause-drained : goal.returns-clause-drained
returns-clause-drained g c = grind (arith, common_steps)

pub returns-clause-may : goal.returns-clause-may
returns-clause-may g c = grind (arith, common_steps)

pub returns-in_default-clause-rings : goal.returns-in_default-clause-rings
returns-in_default-clause-rings g c = grind (arith, common_steps)

pub returns-in_default-clause-same : goal.returns-in_default-clause-same
returns-in_default-clause-same g c = grind (arith, common_steps)

pub returns-in_default-clause-why : goal.returns-in_default-clause-why
returns-in_default-clause-why g c = grind (arith, common_steps)

pub returns-then-max-gt0-clause-why : goal.returns-then-max-gt0-clause-why
returns-then-max-gt0-clause-why g c = grind (arith, common_steps)
