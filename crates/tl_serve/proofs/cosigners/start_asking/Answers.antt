use Rattle.std.proofs.Common.{arith}
use Rattle.std.proofs.lemmas.Grind.{common_steps}
use Rattle.tl_serve.proofs.cosigners.start_asking.Goals as goal

pub loop-place-init : goal.loop-place-init
loop-place-init g c = grind (arith, common_steps)

pub spawn-requires-after_bounds : goal.spawn-requires-after_bounds
spawn-requires-after_bounds g c = grind (arith, common_steps)
