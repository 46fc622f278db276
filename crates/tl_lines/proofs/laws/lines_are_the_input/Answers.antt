use Rattle.tl_lines.proofs.PieceLemmas.{are_lines}
use Rattle.tl_lines.proofs.laws.lines_are_the_input.Goals as goal

pub returns : goal.returns
returns c = are_lines
