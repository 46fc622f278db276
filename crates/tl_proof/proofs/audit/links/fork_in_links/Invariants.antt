use Rattle.std.proofs.Common.{◌≡◌, ◌≤◌, length, map, take, vec_items}
use Rattle.tl_hash.specs.Tree.{tree_hash}
use Rattle.tl_proof.specs.Acceptance.{step_of}
use Rattle.tl_proof.specs.Inner.Forks.{end_size, end_root}
use Rattle.tl_proof.proofs.audit.links.fork_in_links.Given as goal

abbrev pub invariant-loop-count : goal.invariant-loop-count
invariant-loop-count g l = record {
  most : l.count ≤ length l.links;
  root : end_root l.old_root (take l.count (map step_of l.links))
      ≡ tree_hash g.T.TreeHash.digest_of (take (end_size l.old (take l.count (map step_of l.links))) (map vec_items l.new));
}

abbrev pub decreases-loop-count : goal.decreases-loop-count
decreases-loop-count g l = l.count
