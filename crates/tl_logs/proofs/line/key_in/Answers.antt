use Rattle.tl_logs.proofs.LineLaws.{named}
use Rattle.tl_logs.proofs.line.key_in.Goals as goal

pub returns-in-Err-Malformed : goal.returns-in-Err-Malformed
returns-in-Err-Malformed g c = named g.row.A.Denot c.args.text.now c.key_behind.result (rw c.in-Err-Malformed.field-0-is at c.in-Err-Malformed.ensures) c.key_behind.ensures
