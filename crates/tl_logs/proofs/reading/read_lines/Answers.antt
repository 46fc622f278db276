use Rattle.std.proofs.Common.{arith}
use Rattle.std.proofs.lemmas.Grind.{common_steps}
use Rattle.tl_logs.specs.ReadLogs.{logs_shown}
use Rattle.tl_logs.specs.Inner.ByOrigin.{index_of}
use Rattle.tl_logs.proofs.IndexLaws.{indexes_none}
use Rattle.tl_logs.proofs.FileLaws.{read_none, read_more, refused, shorter}
use Rattle.tl_logs.proofs.reading.read_lines.Goals as goal

pub loop-left-init : goal.loop-left-init
loop-left-init g c = rw c.new-logs.ensures.items (read_none c.args.bytes.now, indexes_none (index_of c.new-index.result) c.new-index.ensures)

pub returns-in-Err : goal.returns-in-Err
returns-in-Err g c = rw c.fault_at.ensures
    (refused g.row.A.Denot c.args.bytes.now (logs_shown c.loop-left.logs.items) (logs_shown c.take_line.new.logs.items) c.loop-left.line c.loop-left.left.now c.cut_line.result.0.now
    c.cut_line.result.1.now c.in-Err.fault c.loop-left.invariant.0 c.loop-left-test.ensures c.cut_line.ensures c.in-Err.ensures.taken)

pub loop-left-preserved : goal.loop-left-preserved
loop-left-preserved g c = (
  read_more c.args.bytes.now (logs_shown c.loop-left.logs.items) (logs_shown c.take_line.new.logs.items) c.loop-left.line c.loop-left.left.now c.cut_line.result.0.now
      c.cut_line.result.1.now c.loop-left.invariant.0 c.loop-left-test.ensures c.cut_line.ensures c.in-Ok.ensures.taken,
  c.in-Ok.ensures.indexed,
)

pub loop-left-smaller : goal.loop-left-smaller
loop-left-smaller g c = omega (arith, shorter c.loop-left.left.now c.cut_line.result.0.now c.cut_line.result.1.now c.loop-left-test.ensures c.cut_line.ensures)

pub returns : goal.returns
returns g c = grind (arith, common_steps)
