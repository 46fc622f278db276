use Rattle.std.proofs.Common.{◌≡◌, None, length}
use Rattle.std.specs.List.{AllWithin}
use Rattle.tl_feed.proofs.tally.Tally.forget_lines.Given as goal

-- the lines so far are forgotten
abbrev pub invariant-loop-line : goal.invariant-loop-line
invariant-loop-line l = AllWithin (λ line. line ≡ None) l.line-items 0 l.line-index × (length l.line-items ≡ length l.fn.self.lines.items)
