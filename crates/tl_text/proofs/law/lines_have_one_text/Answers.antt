use Rattle.tl_text.proofs.Lines.{lines_once}
use Rattle.tl_text.proofs.law.lines_have_one_text.Goals as goal

pub returns : goal.returns
returns c = lines_once
