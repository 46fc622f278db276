use Rattle.std.proofs.Common.{arith}
use Rattle.std.proofs.lemmas.Grind.{common_steps}
use Rattle.tl_run.proofs.log_signer.HmacLogSignerLogSigner.line.Goals as goal

pub returns : goal.returns
returns g c = grind (arith, common_steps)
