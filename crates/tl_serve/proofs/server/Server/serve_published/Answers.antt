use Rattle.std.proofs.Common.{arith}
use Rattle.std.proofs.lemmas.Grind.{common_steps}
use Rattle.tl_serve.proofs.server.Server.serve_published.Goals as goal

pub returns : goal.returns
returns g c = grind (arith, common_steps)

pub returns-in-Err : goal.returns-in-Err
returns-in-Err g c = grind (arith, common_steps)
