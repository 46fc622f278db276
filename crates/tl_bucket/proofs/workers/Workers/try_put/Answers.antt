use Rattle.std.proofs.Common.{arith}
use Rattle.std.proofs.lemmas.Grind.{common_steps}
use Rattle.tl_bucket.proofs.workers.Workers.try_put.Goals as goal

pub slice_back_joined-held-2 : goal.slice_back_joined-held-2
slice_back_joined-held-2 g c = grind (arith, common_steps)
