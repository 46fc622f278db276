use Rattle.std.proofs.Common.{◌/◌, arith}
use Rattle.tl_store.proofs.Counts.{count_small}
use Rattle.tl_store.proofs.Splits.{ends_below}
use Rattle.tl_store.proofs.index.entries_before.Goals as goal

pub loop-n-init : goal.loop-n-init
loop-n-init c = record { low = omega (arith, count_small (c.args.index / 2)); small = omega arith }

pub loop-n-preserved : goal.loop-n-preserved
loop-n-preserved c = record { low = omega (arith, c.stored_count.ensures.subtrees); small = ends_below _ c.args.index c.stored_count.result c.stored_count.ensures.subtrees (omega arith) c.requires }
