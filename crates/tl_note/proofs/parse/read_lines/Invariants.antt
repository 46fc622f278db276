use Rattle.std.proofs.Common.{length}
use Rattle.tl_note.proofs.LineLemmas.{HasRead}
use Rattle.tl_note.proofs.parse.read_lines.Given as goal

abbrev pub invariant-loop-line : goal.invariant-loop-line
invariant-loop-line g l = HasRead l.text l.lines.items l.left

abbrev pub decreases-loop-line : goal.decreases-loop-line
decreases-loop-line g l = length l.left
