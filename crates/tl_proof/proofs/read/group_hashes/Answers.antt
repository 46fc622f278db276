use Rattle.std.proofs.Common.{refl, slice_index_or, arith}
use Rattle.std.proofs.lemmas.Grind.{common_steps}
use Rattle.tl_proof.proofs.SegmentReads.{roots-init, roots-enough, roots-more, roots-all, segment-at, no_segment}
use Rattle.tl_proof.proofs.read.group_hashes.Goals as goal

pub loop-segment-init : goal.loop-segment-init
loop-segment-init g c = roots-init g.T.TreeHash.digest_of c.args.segments.now c.args.hashes.now c.new-roots.result.items c.requires.count c.new-roots.ensures.items

pub loop-segment-preserved : goal.loop-segment-preserved
loop-segment-preserved g c =
    let s = slice_index_or c.args.segments.now c.loop-segment.segment-index no_segment in
    roots-more g.T.TreeHash.digest_of c.args.segments.now c.args.hashes.now c.loop-segment.segment-index c.loop-segment.from c.subtrees.result c.loop-segment.roots.items c.push.new.self.items no_segment s c.cover_hash.result
    c.loop-segment-test.true refl (segment-at c.args.segments.now c.loop-segment.segment-index no_segment s c.loop-segment-test.true refl c.requires.parts)
    c.subtrees.ensures c.cover_hash.ensures c.in_ok-push.ensures.items c.loop-segment.invariant

pub slice_bounds-cover_hash-end : goal.slice_bounds-cover_hash-end
slice_bounds-cover_hash-end g c =
    roots-enough g.T.TreeHash.digest_of c.args.segments.now c.args.hashes.now c.loop-segment.segment-index c.loop-segment.from c.subtrees.result c.loop-segment.roots.items no_segment (slice_index_or c.args.segments.now c.loop-segment.segment-index no_segment)
    c.loop-segment-test.true refl c.subtrees.ensures c.loop-segment.invariant

pub returns-clause-hashes : goal.returns-clause-hashes
returns-clause-hashes g c = roots-all g.T.TreeHash.digest_of c.args.segments.now c.args.hashes.now c.loop-segment.segment-index c.loop-segment.from c.loop-segment.roots.items c.loop-segment-test.false c.loop-segment.invariant

pub overflow_add-to : goal.overflow_add-to
overflow_add-to g c = grind (arith, common_steps)
