use Rattle.tl_lines.proofs.CuttingLemmas.{all_told}
use Rattle.tl_lines.proofs.laws.each_line_is_told.Goals as goal

pub returns : goal.returns
returns c = all_told
