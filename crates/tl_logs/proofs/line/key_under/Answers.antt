use Rattle.std.proofs.Common.{refl}
use Rattle.tl_logs.proofs.LineLaws.{under_refused}
use Rattle.tl_logs.proofs.line.key_under.Goals as goal

pub returns-in-Err : goal.returns-in-Err
returns-in-Err g c = under_refused g.row.A.Denot c.args.name.now c.args.text.now c.in-Err.fault c.in-Err.ensures

pub returns-in_default : goal.returns-in_default
returns-in_default g c = (record { origin = c.args.name.now; key = c.in-Ok.key }, (c.in-Ok.ensures, refl))
