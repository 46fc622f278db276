use Rattle.std.proofs.Common.{arith}
use Rattle.tl_tile.proofs.BundleLemmas.{too_long_at, short_more, short_all}
use Rattle.tl_tile.proofs.bundle.are_short.Goals as goal

pub returns-then-len-gt-LONGEST_ENTRY : goal.returns-then-len-gt-LONGEST_ENTRY
returns-then-len-gt-LONGEST_ENTRY g c = too_long_at c.args.entries.now c.loop-entry.entry-index c.entry-item.result c.loop-entry-test.true c.entry-item.is (omega arith)

pub loop-entry-preserved : goal.loop-entry-preserved
loop-entry-preserved g c = short_more c.args.entries.now c.loop-entry.entry-index c.entry-item.result c.loop-entry-test.true c.entry-item.is (omega arith) c.loop-entry.invariant

pub returns : goal.returns
returns g c = short_all c.args.entries.now c.loop-entry.entry-index c.loop-entry-test.false c.loop-entry.invariant
