use Rattle.tl_command.proofs.CosignedRuns.{parse_fails}
use Rattle.tl_command.proofs.commands.cosigned.message_in.Goals as goal

pub returns-in-Err : goal.returns-in-Err
returns-in-Err g c = parse_fails _ c.args.note.now c.in-Err.fault c.note_refusal.result c.note_refusal.ensures c.in-Err.ensures
