use Rattle.std.proofs.Common.{arith}
use Rattle.std.proofs.lemmas.Grind.{common_steps}
use Rattle.tl_note.proofs.line.SigView.push_to.Goals as goal

pub returns : goal.returns
returns g c = grind (arith, common_steps)
