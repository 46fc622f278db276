use Rattle.std.proofs.Common.{◌≡◌, All, None, length}
use Rattle.tl_feed.proofs.tally.Tally.new.Given as goal

-- the witnesses so far gave no line
abbrev pub invariant-loop : goal.invariant-loop
invariant-loop l = (length l.lines.items ≡ l.counter) × All (λ line. line ≡ None) l.lines.items
