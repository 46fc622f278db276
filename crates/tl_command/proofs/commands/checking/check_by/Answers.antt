use Rattle.tl_command.proofs.Runs.{runs_check_by}
use Rattle.tl_command.proofs.commands.checking.check_by.Goals as goal

pub returns : goal.returns
returns g c =
    runs_check_by _ c.args.text.now c.args.bytes.now c.args.name.now _ c.requires.0 _ _ c.check_under.result c.requires.1 c.requires.3 c.requires.2 c.check_under.ensures
