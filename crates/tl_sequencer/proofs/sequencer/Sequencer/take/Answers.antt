use Rattle.std.proofs.Common.{arith}
use Rattle.std.proofs.lemmas.Grind.{common_steps}
use Rattle.tl_sequencer.proofs.Logs.{Gives-takes, same-log, log-length, same-rings}
use Rattle.tl_sequencer.proofs.Keeps.{Gives-kept, same-kept}
use Rattle.tl_sequencer.proofs.sequencer.Sequencer.take.Goals as goal
use Rattle.tl_sequencer.proofs.sequencer.Sequencer.take.Goals.{in-Ok, in-Err}

pub invariant_of-self : goal.invariant_of-self
invariant_of-self g c = elim c.match-take.branch [
  | in-Ok w ↦ Gives-kept _ _ _ _ _ _ _ _ _ _ _ _ _ (omega arith) c.index_mut-from.ensures.value c.index_mut-places.ensures.value _ (let s = c.self.inside in let e = log-length s.base.items s.taken.items s.who.items s.limit s.lanes.items in omega (arith, w.in-Ok.ensures.most)) w.in-Ok.ensures.taken w.in-Ok.ensures.placed c.self.invariant
  | in-Err w ↦ same-kept _ _ _ _ _ _ _ _ _ _ _ _ _ (omega arith) c.index_mut-from.ensures.value c.index_mut-places.ensures.value w.in-Err.ensures.err.0 w.in-Err.ensures.err.1 w.in-Err.ensures.err.2 w.in-Err.ensures.kept c.self.invariant
]

pub returns-clause-taken : goal.returns-clause-taken
returns-clause-taken g c = elim c.match-take.branch [
  | in-Ok w ↦ rw (w.result-is, ← c.self.view_is) (Gives-takes _ _ _ _ _ _ _ _ _ _ (omega arith) c.index_mut-from.ensures.value _ (let s = c.self.inside in let e = log-length s.base.items s.taken.items s.who.items s.limit s.lanes.items in omega (arith, w.in-Ok.ensures.most)) w.in-Ok.ensures.taken)
  | in-Err w ↦ rw w.result-is tt
]

pub returns-clause-same : goal.returns-clause-same
returns-clause-same g c = elim c.match-take.branch [
  | in-Ok w ↦ rw w.result-is tt
  | in-Err w ↦ rw (w.result-is, ← c.self.view_is) (same-log _ _ _ _ _ _ _ _ _ _ (omega arith) c.index_mut-from.ensures.value w.in-Err.ensures.err.0 w.in-Err.ensures.err.1 w.in-Err.ensures.err.2)
]

pub returns-clause-rings : goal.returns-clause-rings
returns-clause-rings g c = rw (← c.self.view_is) (same-rings c.self.inside.lanes.items c.args.lane c.index_mut-from.result.now c.take.new.self c.index_mut-from.ensures.value c.take.ensures.ring)

pub overflow_sub-room : goal.overflow_sub-room
overflow_sub-room g c = grind (arith, common_steps)

pub returns-clause-may : goal.returns-clause-may
returns-clause-may g c = grind (arith, common_steps)

pub returns-clause-why : goal.returns-clause-why
returns-clause-why g c = grind (arith, common_steps)

pub returns-then-max-gt0-clause-why : goal.returns-then-max-gt0-clause-why
returns-then-max-gt0-clause-why g c = grind (arith, common_steps)
