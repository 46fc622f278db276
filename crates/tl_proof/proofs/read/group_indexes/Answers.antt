use Rattle.std.proofs.Common.{refl, slice_index_or, vec_len, vec_capacity, arith}
use Rattle.std.proofs.lemmas.Grind.{common_steps}
use Rattle.tl_proof.proofs.SegmentReads.{reserved-more, groups-all, no_segment}
use Rattle.tl_proof.proofs.read.group_indexes.Goals as goal

pub returns-clause-groups : goal.returns-clause-groups
returns-clause-groups g c = groups-all c.args.segments.now c.loop-segment.segment-index c.loop-segment.indexes.items c.loop-segment-test.false c.loop-segment.invariant.groups

pub loop-segment-preserved : goal.loop-segment-preserved
loop-segment-preserved g c =
    reserved-more c.args.segments.now c.loop-segment.segment-index c.loop-segment.indexes.items c.cover_indexes.new.indexes.items
    (vec_len c.loop-segment.indexes) (vec_capacity c.loop-segment.indexes) (vec_len c.cover_indexes.new.indexes) (vec_capacity c.cover_indexes.new.indexes)
    no_segment (slice_index_or c.args.segments.now c.loop-segment.segment-index no_segment)
    c.loop-segment-test.true refl c.cover_indexes.ensures.covering c.cover_indexes.ensures.count c.cover_indexes.ensures.capacity c.loop-segment.invariant

pub cover_indexes-requires-clause-aligned : goal.cover_indexes-requires-clause-aligned
cover_indexes-requires-clause-aligned g c = grind (arith, common_steps)

pub cover_indexes-requires-clause-order : goal.cover_indexes-requires-clause-order
cover_indexes-requires-clause-order g c = grind (arith, common_steps)

pub cover_indexes-requires-clause-room : goal.cover_indexes-requires-clause-room
cover_indexes-requires-clause-room g c = grind (arith, common_steps)

pub cover_indexes-requires-clause-small : goal.cover_indexes-requires-clause-small
cover_indexes-requires-clause-small g c = grind (arith, common_steps)

pub loop-segment-init : goal.loop-segment-init
loop-segment-init g c = grind (arith, common_steps)

pub returns-in_err-reserve-clause-some : goal.returns-in_err-reserve-clause-some
returns-in_err-reserve-clause-some g c = grind (arith, common_steps)
