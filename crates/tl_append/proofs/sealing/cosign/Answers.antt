use Rattle.std.proofs.Common.{arith}
use Rattle.std.proofs.lemmas.Grind.{common_steps}
use Rattle.tl_append.proofs.sealing.cosign.Goals as goal

pub returns-in-Ok-check-clause-kept : goal.returns-in-Ok-check-clause-kept
returns-in-Ok-check-clause-kept g c = grind (arith, common_steps)
