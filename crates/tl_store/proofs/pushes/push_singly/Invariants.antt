use Rattle.std.proofs.Common.{◌≡◌, take, map, vec_items, vec_capacity}
use Rattle.tl_store.specs.Inner.Adds.{AddsEntries}
use Rattle.tl_store.proofs.pushes.push_singly.Given as goal

abbrev pub invariant-loop-before : goal.invariant-loop-before
invariant-loop-before g l = record {
  added : AddsEntries g.T.TreeHash.digest_of l.size (map vec_items (take l.before l.entries)) l.fn.hashes.items l.hashes.items;
  capacity : vec_capacity l.hashes ≡ vec_capacity l.fn.hashes;
}
