use Rattle.std.proofs.Common.{length}
use Rattle.tl_command.proofs.Marks.{IsMarked}
use Rattle.tl_command.proofs.line_marks.mark_tiles.Given as goal

-- the tiles of lines before the rest are marked
abbrev pub invariant-loop-tile : goal.invariant-loop-tile
invariant-loop-tile g l = IsMarked l.text l.ends.items l.rest

abbrev pub decreases-loop-tile : goal.decreases-loop-tile
decreases-loop-tile g l = length l.rest
