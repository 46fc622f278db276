use Rattle.std.proofs.Common.{◌-◌, vec_len, vec_capacity}
use Rattle.tl_store.proofs.Covering.{IsAdded}
use Rattle.tl_store.proofs.segment.cover_indexes.Given as goal

abbrev pub invariant-loop-covered : goal.invariant-loop-covered
invariant-loop-covered g l = IsAdded l.start l.end l.covered l.fn.indexes.items l.indexes.items (vec_len l.fn.indexes) (vec_len l.indexes) (vec_capacity l.fn.indexes) (vec_capacity l.indexes)

abbrev pub decreases-loop-covered : goal.decreases-loop-covered
decreases-loop-covered g l = l.end - l.covered
