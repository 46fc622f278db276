use Rattle.std.proofs.Common.{◌≡◌, length, vec_capacity}
use Rattle.tl_witness.proofs.ProofLines.{HasRead}
use Rattle.tl_witness.proofs.request.read_hashes.Given as goal

-- the hashes so far, and room for all
abbrev pub invariant-loop-read : goal.invariant-loop-read
invariant-loop-read g l = HasRead l.text l.hashes.items l.left × (vec_capacity l.hashes ≡ l.count)

abbrev pub decreases-loop-read : goal.decreases-loop-read
decreases-loop-read g l = length l.left
