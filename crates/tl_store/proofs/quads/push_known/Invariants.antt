use Rattle.std.proofs.Common.{◌≡◌, ◌++◌, take, vec_capacity}
use Rattle.tl_store.proofs.quads.push_known.Given as goal

abbrev pub invariant-loop-hash : goal.invariant-loop-hash
invariant-loop-hash g l = record {
  items : l.hashes.items ≡ l.fn.hashes.items ++ take l.hash-index l.known;
  capacity : vec_capacity l.hashes ≡ vec_capacity l.fn.hashes;
}
