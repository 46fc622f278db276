use Rattle.std.proofs.Common.{◌≡◌, ◌≤◌, ◌+◌, vec_len, vec_capacity}
use Rattle.tl_store.proofs.Completed.{ArePushed}
use Rattle.tl_store.proofs.pushes.push_higher.Given as goal

abbrev pub invariant-loop-level : goal.invariant-loop-level
invariant-loop-level g l = record {
  pushed : ArePushed g.T.TreeHash.digest_of l.size l.fn.low l.fn.first l.level l.hash l.fn.hashes.items l.hashes.items;
  room : vec_len l.hashes + l.levels ≤ vec_capacity l.hashes + l.level;
  capacity : vec_capacity l.hashes ≡ vec_capacity l.fn.hashes;
}
