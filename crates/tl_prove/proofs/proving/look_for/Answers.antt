use Rattle.std.proofs.Common.{refl}
use Rattle.tl_prove.proofs.Others.{others_more}
use Rattle.tl_prove.proofs.proving.look_for.Goals as goal

pub loop-left-preserved : goal.loop-left-preserved
loop-left-preserved g c =
    others_more c.args.head.now c.args.entry.now c.loop-left.left _ refl c.loop-left-test.true c.loop-left.invariant (rw c.in-Ok-None.field-0-is at c.in-Ok-None.ensures)
