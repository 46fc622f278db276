use Rattle.std.proofs.Common.{arith}
use Rattle.std.proofs.lemmas.Grind.{common_steps}
use Rattle.tl_source.proofs.host.connect.Goals as goal

pub drop-address-iterator-requires : goal.drop-address-iterator-requires
drop-address-iterator-requires g c = grind (arith, common_steps)

pub drop-address-iterator-requires-in-Ok-connect_timeout : goal.drop-address-iterator-requires-in-Ok-connect_timeout
drop-address-iterator-requires-in-Ok-connect_timeout g c = grind (arith, common_steps)

pub loop-address-preserved : goal.loop-address-preserved
loop-address-preserved g c = grind (arith, common_steps)
