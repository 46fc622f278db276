use Rattle.std.proofs.Common.{◌<◌, [], length, sym, arith}
use Rattle.std.proofs.lemmas.Grind.{common_steps}
use Rattle.tl_sequencer.specs.Rings.{log_of}
use Rattle.tl_sequencer.specs.Inner.Held.{taken_of, who_of}
use Rattle.tl_sequencer.proofs.Logs.{Ends-closes, Ends-fits, same-rings, end-inside, given-is, refuses-log}
use Rattle.tl_sequencer.proofs.Held.{Ends-held, fits-log, room-log, same-held}
use Rattle.tl_sequencer.proofs.intake.Intake.end.Goals as goal

inside : (g : _) (c : goal.After-drop-ended-inside g) → c.lane-lane.result < length c.self.inside.lanes.items
inside g c = end-inside c.self.inside.lanes.items c.args.ended _ c.lane-lane.ensures (rw (← c.self.view_is) at c.requires)

pub invariant_of-self : goal.invariant_of-self
invariant_of-self g c = Ends-held _ _ _ _ _ _ _ _ _ _ (inside g c) c.index_mut-ending.ensures.value c.end_noted.ensures.drained c.self.invariant _ c.in-Ok.n c.in-Ok.ensures.room c.in-Ok.ensures.taken

pub invariant_of-self-in-Err : goal.invariant_of-self-in-Err
invariant_of-self-in-Err g c = same-held _ _ _ _ _ _ _ _ _ c.index_mut-ending.ensures.value c.in-Err.ensures.err.0 c.in-Err.ensures.err.1 c.in-Err.ensures.err.2 _ c.self.invariant

pub returns-in-Ok-clause-rings : goal.returns-in-Ok-clause-rings
returns-in-Ok-clause-rings g c = rw (← c.self.view_is) (same-rings c.self.inside.lanes.items c.lane-lane.result c.index_mut-ending.result.now c.end_noted.new.self c.index_mut-ending.ensures.value c.end_noted.ensures.ring)

pub returns-in-Ok-clause-may : goal.returns-in-Ok-clause-may
returns-in-Ok-clause-may g c = rw (← c.self.view_is) (Ends-fits [] _ _ _ _ _ _ _ _ _ (inside g c) c.index_mut-ending.ensures.value _ _ (sym c.lane-lane.ensures) (fits-log _ _ _ _ _ c.self.invariant c.in-Ok.n c.in-Ok.ensures.room) c.in-Ok.ensures.taken)

pub returns-in-Ok-clause-taken : goal.returns-in-Ok-clause-taken
returns-in-Ok-clause-taken g c = rw (← c.self.view_is) (Ends-closes [] _ _ _ _ _ _ _ _ _ (inside g c) c.index_mut-ending.ensures.value _ _ (sym c.lane-lane.ensures) (fits-log _ _ _ _ _ c.self.invariant c.in-Ok.n c.in-Ok.ensures.room) c.in-Ok.ensures.taken)

pub returns-in-Err-clause-why : goal.returns-in-Err-clause-why
returns-in-Err-clause-why g c =
    let s = c.self.inside in
    let log = log_of [] (taken_of s.history.items) (who_of s.history.items) s.limit s.lanes.items in
    let inside : c.lane-lane.result < length s.lanes.items = end-inside s.lanes.items c.args.ended _ c.lane-lane.ensures (rw (← c.self.view_is) at c.requires) in
    rw (← c.self.view_is) (refuses-log log c.args.ended _ _ _ (room-log _ _ _ _ _ c.self.invariant) (rw (← c.lane-lane.ensures) (given-is log _ _ inside c.index_mut-ending.ensures.value)) c.in-Err.ensures.why)

pub overflow_sub-room : goal.overflow_sub-room
overflow_sub-room g c = grind (arith, common_steps)

pub returns-in-Err-clause-rings : goal.returns-in-Err-clause-rings
returns-in-Err-clause-rings g c = grind (arith, common_steps)

pub returns-in-Err-clause-same : goal.returns-in-Err-clause-same
returns-in-Err-clause-same g c = grind (arith, common_steps)

pub returns-in-Ok-clause-drained : goal.returns-in-Ok-clause-drained
returns-in-Ok-clause-drained g c = grind (arith, common_steps)
