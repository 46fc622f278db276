use Rattle.tl_command.proofs.Runs.{runs_open_by}
use Rattle.tl_command.proofs.commands.opening.open_by.Goals as goal

pub returns : goal.returns
returns g c = runs_open_by _ c.args.text.now c.requires.0 _ _ c.open_under.result c.requires.1 c.requires.2 c.open_under.ensures
