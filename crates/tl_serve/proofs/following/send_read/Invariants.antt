use Rattle.std.proofs.Common.{◌≡◌}
use Rattle.tl_serve.proofs.following.send_read.Given as goal

-- its ring and its lane stay
abbrev pub invariant-loop : goal.invariant-loop
invariant-loop g l = (l.submitter.ring ≡ l.fn.submitter.ring) × (l.submitter.lane ≡ l.fn.submitter.lane)
