use Rattle.std.proofs.Common.{◌≡◌, ◌≤◌, ◌++◌, length, drop, map, vec_items}
use Rattle.std.specs.List.{sum}
use Rattle.tl_proof.specs.Inner.ManyPaths.{cut_into}
use Rattle.tl_proof.proofs.prove.cut_hashes.Given as goal

-- the lists so far ++ the pieces of what is left ≡ all pieces
abbrev pub invariant-loop-count : goal.invariant-loop-count
invariant-loop-count g l = record {
  lists : map vec_items l.lists.items ++ cut_into (drop l.count-index l.counts) l.left ≡ cut_into l.counts l.hashes;
  count : length l.lists.items ≡ l.count-index;
  room : sum (drop l.count-index l.counts) ≤ length l.left;
}
