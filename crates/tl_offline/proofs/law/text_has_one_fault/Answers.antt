use Rattle.tl_offline.proofs.OneFault.{one_fault}
use Rattle.tl_offline.proofs.law.text_has_one_fault.Goals as goal

pub returns : goal.returns
returns c = one_fault
