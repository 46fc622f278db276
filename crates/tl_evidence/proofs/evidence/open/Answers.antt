use Rattle.std.proofs.Common.{◌∙◌, sym}
use Rattle.tl_checkpoint.specs.Checkpoint.{checkpoint_text}
use Rattle.tl_command.proofs.NoteBytes.{note_utf8}
use Rattle.tl_evidence.proofs.Verdicts.{none_opened}
use Rattle.tl_evidence.proofs.evidence.open.Goals as goal

pub returns-in_default : goal.returns-in_default
returns-in_default g c = λ head signed. c.in_default.ensures.cases.0 (note_utf8 c.args.bytes.now (checkpoint_text head) signed.lines signed.noted)

pub returns-in-Err : goal.returns-in-Err
returns-in-Err g c = none_opened _ _ c.args.bytes.now c.in-Ok.note.now _ c.in-Err.fault c.none_unless_memory.result c.in-Err.ensures c.in-Ok.ensures.cases.0 c.none_unless_memory.ensures
