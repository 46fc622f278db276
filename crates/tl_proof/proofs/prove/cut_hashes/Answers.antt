use Rattle.std.proofs.Common.{arith}
use Rattle.std.proofs.lemmas.Grind.{common_steps}
use Rattle.tl_proof.proofs.prove.cut_hashes.Goals as goal

pub loop-count-preserved : goal.loop-count-preserved
loop-count-preserved g c = grind (arith, common_steps)

pub returns-clause-lists : goal.returns-clause-lists
returns-clause-lists g c = grind (arith, common_steps)

pub split_at-requires : goal.split_at-requires
split_at-requires g c = grind (arith, common_steps)
