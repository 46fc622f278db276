use Rattle.tl_append.proofs.Proposals.{has_enough}
use Rattle.tl_append.proofs.cosigners.check_cosigned.Goals as goal

pub returns-in-Ok : goal.returns-in-Ok
returns-in-Ok g c = has_enough c.args.note.now _ _ c.args.need _ c.in-Ok.ensures
