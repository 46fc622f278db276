use Rattle.std.proofs.Common.{◌++◌, arith}
use Rattle.std.proofs.lemmas.Grind.{common_steps}
use Rattle.tl_logs.specs.Inner.Counting.{counts_of}
use Rattle.tl_logs.proofs.BlockLaws.{part_refused, part_small, took_more}
use Rattle.tl_logs.proofs.state_reading.StateReading.take_block.Goals as goal

pub returns-in-Err : goal.returns-in-Err
returns-in-Err g c = λ input small read.
    let part = c.loop-left.invariant input small read in
    part_refused g.T.TreeHash.digest_of (counts_of c.args.counting.now) input c.args.block.now c.loop-left.left.now part.taken c.in-Err.fault part.cut
    (c.in-Err.ensures.refused (input ++ part.taken) (part_small input part.taken c.loop-left.left.now c.args.block.now part.cut small) part.read)

pub loop-left-preserved : goal.loop-left-preserved
loop-left-preserved g c = λ input small read.
    let part = c.loop-left.invariant input small read in
    took_more g.T.TreeHash.digest_of (counts_of c.args.counting.now) c.take_some.new.self input c.args.block.now c.loop-left.left.now c.in-Ok.rest.now part.taken part.cut
    (c.in-Ok.ensures.taken (input ++ part.taken) (part_small input part.taken c.loop-left.left.now c.args.block.now part.cut small) part.read)

pub returns : goal.returns
returns g c = grind (arith, common_steps)
