use Rattle.std.proofs.Common.{arith}
use Rattle.std.proofs.lemmas.Grind.{common_steps}
use Rattle.tl_source.proofs.url.is_plain.Goals as goal

pub returns : goal.returns
returns c = grind (arith, common_steps)
