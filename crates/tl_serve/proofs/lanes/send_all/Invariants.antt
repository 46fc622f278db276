use Rattle.std.proofs.Common.{◌≡◌, length}
use Rattle.tl_serve.proofs.lanes.send_all.Given as goal

-- its ring and its lane stay
abbrev pub invariant-loop-entry : goal.invariant-loop-entry
invariant-loop-entry l =
    (l.submitter.ring ≡ l.fn.submitter.ring) × (l.submitter.lane ≡ l.fn.submitter.lane)
    × (l.entry-iterator.rest.len ≡ length l.entry-iterator.rest.items)
