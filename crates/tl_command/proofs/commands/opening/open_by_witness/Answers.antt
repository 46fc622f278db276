use Rattle.tl_command.proofs.CosignedRuns.{runs_by_witness}
use Rattle.tl_command.proofs.commands.opening.open_by_witness.Goals as goal

pub returns : goal.returns
returns g c = runs_by_witness _ c.args.text.now c.requires.0 _ _ c.open_cosigned.result c.requires.1 c.requires.2 c.open_cosigned.ensures
