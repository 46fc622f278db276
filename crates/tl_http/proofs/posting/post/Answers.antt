use Rattle.std.proofs.Common.{arith}
use Rattle.std.proofs.lemmas.Grind.{common_steps}
use Rattle.tl_http.proofs.posting.post.Goals as goal

pub returns : goal.returns
returns g c = grind (arith, common_steps)

pub returns-then-not-is_askable : goal.returns-then-not-is_askable
returns-then-not-is_askable g c = grind (arith, common_steps)
