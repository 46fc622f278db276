use Rattle.std.proofs.Common.{◌≡◌}
use Rattle.tl_rows.proofs.sending.sent.Given as goal

-- its ring and its lane stay
abbrev pub invariant-loop-entry : goal.invariant-loop-entry
invariant-loop-entry l = (l.submitter.ring ≡ l.fn.submitter.ring) × (l.submitter.lane ≡ l.fn.submitter.lane)
