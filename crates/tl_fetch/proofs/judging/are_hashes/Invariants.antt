use Rattle.std.proofs.Common.{ℕ, List, ◌<◌, get_or}
use Rattle.tl_hash.specs.Bytes.{IsHash}
use Rattle.tl_fetch.proofs.judging.are_hashes.Given as goal

-- those so far are hashes
abbrev pub invariant-loop-hash : goal.invariant-loop-hash
invariant-loop-hash l = (k : ℕ) (d : List ℕ) → k < l.hash-index → IsHash (get_or l.hashes k d)
