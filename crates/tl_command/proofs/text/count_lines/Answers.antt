use Rattle.tl_command.proofs.Counting.{counted_all, counted_long, counted_more}
use Rattle.std.proofs.Common.{sym}
use Rattle.tl_command.proofs.text.count_lines.Goals as goal

pub returns-then-line-gt-LONGEST_ENTRY-clause-long : goal.returns-then-line-gt-LONGEST_ENTRY-clause-long
returns-then-line-gt-LONGEST_ENTRY-clause-long c =
    counted_long c.args.text.now c.loop-rest.rest.now c.first_entry.result.1.now c.first_entry.result.0.now c.loop-rest.count
    c.loop-rest.invariant c.first_entry.ensures.entry c.if-line-gt-LONGEST_ENTRY.true

pub loop-rest-preserved : goal.loop-rest-preserved
loop-rest-preserved c =
    counted_more c.args.text.now c.loop-rest.rest.now c.first_entry.result.1.now c.first_entry.result.0.now c.loop-rest.count
    c.loop-rest.invariant c.first_entry.ensures.entry c.first_entry.ensures.shorter c.if-line-gt-LONGEST_ENTRY.false

pub returns-clause-count : goal.returns-clause-count
returns-clause-count c = (counted_all c.args.text.now c.loop-rest.rest.now c.loop-rest.count c.loop-rest.invariant (sym c.loop-rest-test.ensures)).0

pub returns-clause-short : goal.returns-clause-short
returns-clause-short c = (counted_all c.args.text.now c.loop-rest.rest.now c.loop-rest.count c.loop-rest.invariant (sym c.loop-rest-test.ensures)).1
