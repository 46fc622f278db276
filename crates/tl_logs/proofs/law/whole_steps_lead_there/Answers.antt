use Rattle.tl_logs.proofs.WholeChains.{whole_end}
use Rattle.tl_logs.proofs.law.whole_steps_lead_there.Goals as goal

pub returns : goal.returns
returns c = whole_end
