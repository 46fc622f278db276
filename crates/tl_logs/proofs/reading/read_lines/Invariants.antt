use Rattle.std.proofs.Common.{length}
use Rattle.tl_logs.specs.Inner.ByOrigin.{Indexes, index_of, log_origins}
use Rattle.tl_logs.specs.ReadLogs.{logs_shown}
use Rattle.tl_logs.proofs.FileLaws.{HasRead}
use Rattle.tl_logs.proofs.reading.read_lines.Given as goal

abbrev pub invariant-loop-left : goal.invariant-loop-left
invariant-loop-left g l = HasRead l.bytes (logs_shown l.logs.items) l.line l.left × Indexes (index_of l.index) (log_origins (logs_shown l.logs.items))

abbrev pub decreases-loop-left : goal.decreases-loop-left
decreases-loop-left g l = length l.left
