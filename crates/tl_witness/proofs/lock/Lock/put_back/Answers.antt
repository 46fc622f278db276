use Rattle.std.proofs.Common.{arith}
use Rattle.std.proofs.lemmas.Grind.{common_steps}
use Rattle.tl_witness.proofs.lock.Lock.put_back.Goals as goal

pub done-requires : goal.done-requires
done-requires g c = grind (arith, common_steps)

pub loop-preserved : goal.loop-preserved
loop-preserved g c = grind (arith, common_steps)

pub loop-preserved-derived : goal.loop-preserved-derived
loop-preserved-derived g c = grind (arith, common_steps)

pub loop-preserved-then-found-ne-FREE : goal.loop-preserved-then-found-ne-FREE
loop-preserved-then-found-ne-FREE g c = grind (arith, common_steps)

pub loop-preserved-then-found-ne-FREE-derived : goal.loop-preserved-then-found-ne-FREE-derived
loop-preserved-then-found-ne-FREE-derived g c = grind (arith, common_steps)

pub put-requires : goal.put-requires
put-requires g c = grind (arith, common_steps)

pub unreachable-requires : goal.unreachable-requires
unreachable-requires g c = grind (arith, common_steps)
