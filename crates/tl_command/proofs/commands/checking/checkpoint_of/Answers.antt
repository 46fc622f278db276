use Rattle.std.proofs.Common.{refl, rules, arith}
use Rattle.std.proofs.lemmas.Grind.{common_steps}
use Rattle.tl_checkpoint.specs.Checkpoint.{checkpoint_text}
use Rattle.tl_command.proofs.NoteBytes.{note_utf8}
use Rattle.tl_command.proofs.NoCheckpoints.{opening_refused}
use Rattle.tl_command.proofs.commands.checking.checkpoint_of.Goals as goal

pub returns-in_default : goal.returns-in_default
returns-in_default g c = (refl, λ head lines stated noted. c.in_default.ensures.cases.0 (note_utf8 c.args.bytes.now (checkpoint_text head) lines noted))

pub returns-in-Err : goal.returns-in-Err
returns-in-Err g c = opening_refused _ c.args.bytes.now c.in-Ok.note.now _ c.in-Err.fault c.checkpoint_refusal.result c.checkpoint_refusal.ensures c.in-Err.ensures (search rules)

pub returns-in-Ok-open_checkpoint : goal.returns-in-Ok-open_checkpoint
returns-in-Ok-open_checkpoint g c = grind (arith, common_steps)
