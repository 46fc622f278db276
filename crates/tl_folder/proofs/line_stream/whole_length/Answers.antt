use Rattle.std.proofs.Common.{rules}
use Rattle.tl_folder.proofs.Fronts.{measured_found, measured_more}
use Rattle.tl_folder.proofs.line_stream.whole_length.Goals as goal
use Rattle.tl_folder.proofs.line_stream.whole_length.Goals.{then-front-gt0, else-front-gt0}

pub loop-count-preserved : goal.loop-count-preserved
loop-count-preserved g c = elim c.if-front-gt0.branch [
  | then-front-gt0 w ↦ rw w.whole-is
      (measured_found _ _ _ _ _ _ c.loop-count.count c.loop-count.whole c.loop-count.invariant c.in-Some.some c.read_some.new.buf c.in-Some.ensures.bound c.in-Some.ensures.consumed
      c.whole_front-front.result c.whole_front-front.ensures (search rules))
  | else-front-gt0 w ↦ rw w.whole-is
      (measured_more _ _ _ _ _ _ c.loop-count.count c.loop-count.whole c.loop-count.invariant c.in-Some.some c.read_some.new.buf c.in-Some.ensures.bound c.in-Some.ensures.consumed
      c.whole_front-front.result c.whole_front-front.ensures (search rules))
]
