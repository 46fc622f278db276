use Rattle.std.proofs.Common.{◌≡◌, ◌≤◌, length, take}
use Rattle.tl_feed.specs.Inner.Tallying.{given}
use Rattle.tl_feed.proofs.tally.Tally.count.Given as goal

-- the lines so far are counted
abbrev pub invariant-loop-line : goal.invariant-loop-line
invariant-loop-line l = (l.count ≡ length (given (take l.line-index l.self.lines.items))) × (l.count ≤ l.line-index)
