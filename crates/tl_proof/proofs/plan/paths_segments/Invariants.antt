use Rattle.std.proofs.Common.{take}
use Rattle.tl_proof.specs.Inner.ManyPaths.{IsPathsPlan}
use Rattle.tl_proof.proofs.plan.paths_segments.Given as goal

-- the segments for the indexes so far
abbrev pub invariant-loop-index : goal.invariant-loop-index
invariant-loop-index g l = IsPathsPlan l.size (take l.index-index l.indexes) l.segments.items l.counts.items
