use Rattle.std.proofs.Common.{◌≡◌, ◌+◌, length, vec_items, vec_capacity}
use Rattle.tl_store.proofs.AddsLemmas.{AddsFirst}
use Rattle.tl_store.proofs.pushes.push_sixteens.Given as goal

abbrev pub invariant-loop-count : goal.invariant-loop-count
invariant-loop-count g l = record {
  count : l.count + length l.left ≡ l.size + length l.entries;
  added : AddsFirst vec_items g.T.TreeHash.digest_of l.size l.entries l.left l.fn.hashes.items l.hashes.items;
  capacity : vec_capacity l.hashes ≡ vec_capacity l.fn.hashes;
}

abbrev pub decreases-loop-count : goal.decreases-loop-count
decreases-loop-count g l = length l.left
