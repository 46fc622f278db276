use Rattle.std.proofs.Common.{◌+◌, [], arith}
use Rattle.tl_logs.specs.ReadLogs.{logs_shown}
use Rattle.tl_logs.specs.Inner.ByOrigin.{index_of}
use Rattle.tl_logs.specs.Inner.Listing.{entry_in}
use Rattle.tl_logs.proofs.IndexLaws.{indexes_none}
use Rattle.tl_logs.proofs.FileLaws.{shorter}
use Rattle.tl_logs.proofs.ListingLaws.{took_all, took_last, took_line, took_more, took_none, took_refused}
use Rattle.tl_logs.proofs.listing.read_list.Goals as goal

pub loop-left-init : goal.loop-left-init
loop-left-init g c = rw c.new-logs.ensures.items (record {
  taken = took_none c.args.bytes.now;
  few = omega arith;
  indexed = indexes_none (index_of c.new-index.result) c.new-index.ensures;
})

pub returns-in-Err : goal.returns-in-Err
returns-in-Err g c =
    took_refused g.row.A.Denot c.args.bytes.now (logs_shown c.loop-left.logs.items) (logs_shown c.take_entry.new.logs.items) (entry_in c.add_line-ended.result) _ c.in-Err.fault
    (took_line c.args.bytes.now (logs_shown c.loop-left.logs.items) (entry_in c.loop-left.waiting) (entry_in c.add_line-ended.result) (entry_in c.add_line-ended.new.waiting) (c.loop-left.line + 1)
    c.loop-left.left.now c.cut_line.result.0.now c.cut_line.result.1.now c.loop-left.invariant.taken c.cut_line.ensures c.add_line-ended.ensures.ends c.add_line-ended.ensures.opens) c.in-Err.ensures.taken

pub loop-left-smaller : goal.loop-left-smaller
loop-left-smaller g c = omega (arith, shorter c.loop-left.left.now c.cut_line.result.0.now c.cut_line.result.1.now c.loop-left-test.ensures c.cut_line.ensures)

pub loop-left-preserved : goal.loop-left-preserved
loop-left-preserved g c = record {
  taken = took_more c.args.bytes.now (logs_shown c.loop-left.logs.items) (logs_shown c.take_entry.new.logs.items) (entry_in c.add_line-ended.result) _
      (took_line c.args.bytes.now (logs_shown c.loop-left.logs.items) (entry_in c.loop-left.waiting) (entry_in c.add_line-ended.result) (entry_in c.add_line-ended.new.waiting) (c.loop-left.line + 1)
      c.loop-left.left.now c.cut_line.result.0.now c.cut_line.result.1.now c.loop-left.invariant.taken c.cut_line.ensures c.add_line-ended.ensures.ends c.add_line-ended.ensures.opens) c.in-Ok.ensures.taken;
  few = omega (arith, c.loop-left.invariant.few, shorter c.loop-left.left.now c.cut_line.result.0.now c.cut_line.result.1.now c.loop-left-test.ensures c.cut_line.ensures);
  indexed = c.in-Ok.ensures.indexed;
}

pub returns-in-Ok-take_entry : goal.returns-in-Ok-take_entry
returns-in-Ok-take_entry g c =
    took_all c.args.bytes.now _
    (took_more c.args.bytes.now (logs_shown c.loop-left.logs.items) (logs_shown c.take_entry-2.new.logs.items) (entry_in c.loop-left.waiting) []
    (took_last c.args.bytes.now (logs_shown c.loop-left.logs.items) (entry_in c.loop-left.waiting) (c.loop-left.line + 1) c.loop-left.left.now c.loop-left.invariant.taken c.loop-left-test.ensures)
    c.in-Ok-take_entry.ensures.taken)

pub returns-in-Err-take_entry : goal.returns-in-Err-take_entry
returns-in-Err-take_entry g c =
    took_refused g.row.A.Denot c.args.bytes.now (logs_shown c.loop-left.logs.items) (logs_shown c.take_entry-2.new.logs.items) (entry_in c.loop-left.waiting) [] c.in-Err-take_entry.fault
    (took_last c.args.bytes.now (logs_shown c.loop-left.logs.items) (entry_in c.loop-left.waiting) (c.loop-left.line + 1) c.loop-left.left.now c.loop-left.invariant.taken c.loop-left-test.ensures)
    c.in-Err-take_entry.ensures.taken
