use Rattle.std.proofs.Common.{arith}
use Rattle.std.proofs.lemmas.Grind.{common_steps}
use Rattle.tl_command.proofs.proof_text.push_hashes.Goals as goal

pub loop-hash-preserved : goal.loop-hash-preserved
loop-hash-preserved g c = grind (arith, common_steps)
