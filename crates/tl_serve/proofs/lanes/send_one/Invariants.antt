use Rattle.std.proofs.Common.{◌≡◌}
use Rattle.tl_serve.proofs.lanes.send_one.Given as goal

-- its ring and its lane stay
abbrev pub invariant-loop : goal.invariant-loop
invariant-loop l = (l.submitter.ring ≡ l.fn.submitter.ring) × (l.submitter.lane ≡ l.fn.submitter.lane)
