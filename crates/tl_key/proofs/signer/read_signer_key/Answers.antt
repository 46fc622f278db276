use Rattle.std.proofs.Common.{arith}
use Rattle.std.proofs.lemmas.Grind.{common_steps}
use Rattle.tl_key.proofs.signer.read_signer_key.Goals as goal

pub made-requires-after_bounds : goal.made-requires-after_bounds
made-requires-after_bounds g c = grind (arith, common_steps)

pub returns : goal.returns
returns g c = grind (arith, common_steps)
