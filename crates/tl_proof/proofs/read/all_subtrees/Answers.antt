use Rattle.std.proofs.Common.{slice_index_or, refl, arith}
use Rattle.tl_proof.proofs.SegmentReads.{count-more, count-all, no_segment}
use Rattle.tl_proof.proofs.read.all_subtrees.Goals as goal

pub loop-segment-preserved : goal.loop-segment-preserved
loop-segment-preserved c = record {
  fits = omega (arith, c.saturating_add-count.ensures);
  total = count-more c.args.segments.now c.loop-segment.segment-index c.loop-segment.count c.saturating_add-count.result c.subtrees.result no_segment (slice_index_or c.args.segments.now c.loop-segment.segment-index no_segment)
      c.loop-segment-test.true refl c.subtrees.ensures c.saturating_add-count.ensures c.loop-segment.invariant.total;
}

pub returns : goal.returns
returns c = count-all c.args.segments.now c.loop-segment.segment-index c.loop-segment.count c.loop-segment-test.false c.loop-segment.invariant.fits c.loop-segment.invariant.total
