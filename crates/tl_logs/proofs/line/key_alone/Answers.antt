use Rattle.std.proofs.Common.{refl, arith}
use Rattle.std.proofs.lemmas.Grind.{common_steps}
use Rattle.tl_logs.proofs.LineLaws.{alone_refused}
use Rattle.tl_logs.proofs.line.key_alone.Goals as goal

pub returns-in-Err : goal.returns-in-Err
returns-in-Err g c = alone_refused g.row.A.Denot c.args.text.now c.in-Err.fault c.in-Err.ensures

pub returns-in_default : goal.returns-in_default
returns-in_default g c = (record { origin = c.in-Ok.key.name; key = c.in-Ok.key }, (c.in-Ok.ensures, refl))

pub returns : goal.returns
returns g c = grind (arith, common_steps)
