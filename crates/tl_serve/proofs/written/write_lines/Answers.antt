use Rattle.std.proofs.Common.{arith}
use Rattle.std.proofs.lemmas.Grind.{common_steps}
use Rattle.tl_serve.proofs.written.write_lines.Goals as goal

pub loop-line-preserved : goal.loop-line-preserved
loop-line-preserved g c = grind (arith, common_steps)

pub returns-clause-behind : goal.returns-clause-behind
returns-clause-behind g c = grind (arith, common_steps)

pub returns-clause-links : goal.returns-clause-links
returns-clause-links g c = grind (arith, common_steps)

pub returns-clause-whole : goal.returns-clause-whole
returns-clause-whole g c = grind (arith, common_steps)
