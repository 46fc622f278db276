use Rattle.std.proofs.Common.{◌≡◌, take, string_bytes}
use Rattle.tl_feed.specs.Inner.Tallying.{joined}
use Rattle.tl_feed.proofs.tally.Tally.text.Given as goal

-- the text is the lines so far
abbrev pub invariant-loop-line : goal.invariant-loop-line
invariant-loop-line l = string_bytes l.text ≡ joined (take l.line-index l.self.lines.items)
