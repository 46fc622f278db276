use Rattle.std.proofs.Common.{arith}
use Rattle.tl_command.proofs.LinesLemmas.{length-entries_of}
use Rattle.tl_command.proofs.log_lines.LogLines.count.Goals as goal

pub returns-clause-few : goal.returns-clause-few
returns-clause-few c = omega (arith, c.self.invariant.number, c.self.invariant.few, length-entries_of c.self.inside.marked.text.now)
