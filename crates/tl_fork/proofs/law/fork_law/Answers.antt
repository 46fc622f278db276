use Rattle.tl_fork.proofs.Honest.{accuses_no_honest_log}
use Rattle.tl_fork.proofs.law.fork_law.Goals as goal

pub returns : goal.returns
returns c = accuses_no_honest_log
