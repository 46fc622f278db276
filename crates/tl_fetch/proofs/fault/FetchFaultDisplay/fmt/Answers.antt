use Rattle.std.proofs.Common.{arith}
use Rattle.std.proofs.lemmas.Grind.{common_steps}
use Rattle.tl_fetch.proofs.fault.FetchFaultDisplay.fmt.Goals as goal

pub returns-in-BadTile-clause-writes : goal.returns-in-BadTile-clause-writes
returns-in-BadTile-clause-writes g c = grind (arith, common_steps)
