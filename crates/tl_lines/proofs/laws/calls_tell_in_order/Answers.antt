use Rattle.tl_lines.proofs.CuttingLemmas.{tells_then}
use Rattle.tl_lines.proofs.laws.calls_tell_in_order.Goals as goal

pub returns : goal.returns
returns c = tells_then
