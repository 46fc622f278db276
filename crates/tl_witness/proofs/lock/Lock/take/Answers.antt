use Rattle.std.proofs.Common.{arith}
use Rattle.std.proofs.lemmas.Grind.{common_steps}
use Rattle.tl_witness.proofs.lock.Lock.take.Goals as goal

pub put-requires : goal.put-requires
put-requires g c = grind (arith, common_steps)

pub returns-in-Some-put : goal.returns-in-Some-put
returns-in-Some-put g c = grind (arith, common_steps)
