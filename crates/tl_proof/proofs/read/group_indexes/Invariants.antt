use Rattle.std.proofs.Common.{vec_len, vec_capacity}
use Rattle.tl_proof.proofs.SegmentReads.{GroupsWithRoom}
use Rattle.tl_proof.proofs.read.group_indexes.Given as goal

abbrev pub invariant-loop-segment : goal.invariant-loop-segment
invariant-loop-segment g l = GroupsWithRoom l.segments l.segment-index l.indexes.items (vec_len l.indexes) (vec_capacity l.indexes)
