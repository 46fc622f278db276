use Rattle.std.proofs.Common.{◌≡◌, ◌<◌, ◌+◌, ◌-◌, ◌^◌, min, drop}
use Rattle.tl_proof.specs.Inner.Segments.{subtree_count}
use Rattle.tl_proof.proofs.read.all_subtrees.Given as goal

abbrev pub invariant-loop-segment : goal.invariant-loop-segment
invariant-loop-segment l = record {
  fits : l.count < 2 ^ 64;
  total : min (l.count + subtree_count (drop l.segment-index l.segments)) (2 ^ 64 - 1) ≡ min (subtree_count l.segments) (2 ^ 64 - 1);
}
