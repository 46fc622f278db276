use Rattle.std.proofs.Common.{ℕ, List, ◌<◌, get_or}
use Rattle.tl_proof.specs.Laws.{HasHashLength}
use Rattle.tl_witness.proofs.chain.are_hashes.Given as goal

-- those so far are hashes
abbrev pub invariant-loop-hash : goal.invariant-loop-hash
invariant-loop-hash l = (k : ℕ) (d : List ℕ) → k < l.hash-index → HasHashLength (get_or l.hashes k d)
