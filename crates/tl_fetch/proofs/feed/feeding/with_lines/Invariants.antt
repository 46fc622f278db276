use Rattle.std.proofs.Common.{◌≤◌, ◌-◌, length}
use Rattle.tl_fetch.proofs.feed.feeding.with_lines.Given as goal

-- no more witnesses than keys so far
abbrev pub invariant-loop-start : goal.invariant-loop-start
invariant-loop-start g l = (l.place ≤ l.start) × (l.start ≤ length l.policy.witnesses.now)

abbrev pub decreases-loop-start : goal.decreases-loop-start
decreases-loop-start g l = length l.policy.witnesses.now - l.start
