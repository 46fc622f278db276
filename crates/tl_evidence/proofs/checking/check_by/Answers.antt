use Rattle.tl_evidence.proofs.ForkRuns.{runs_fork_by}
use Rattle.tl_evidence.proofs.checking.check_by.Goals as goal

pub returns : goal.returns
returns g c =
    runs_fork_by _ c.args.text.now c.args.name.now c.requires.0 _ _ c.check_under.result c.requires.1 c.requires.3 c.requires.2 c.check_under.ensures
