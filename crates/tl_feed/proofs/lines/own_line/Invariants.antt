use Rattle.std.proofs.Common.{All, map, take}
use Rattle.tl_key.specs.NoteKey.{verifier_key}
use Rattle.tl_feed.specs.Inner.Answered.{IsOther}
use Rattle.tl_feed.proofs.lines.own_line.Given as goal

-- none of the lines so far is one
abbrev pub invariant-loop-line : goal.invariant-loop-line
invariant-loop-line l = All (IsOther l.text (map verifier_key l.keys)) (take l.line-index l.line-items)
