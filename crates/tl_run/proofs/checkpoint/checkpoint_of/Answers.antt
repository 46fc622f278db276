use Rattle.std.proofs.Common.{string_bytes, arith}
use Rattle.std.proofs.lemmas.Grind.{common_steps}
use Rattle.std.proofs.lemmas.Str.{IsUtf8-string_bytes}
use Rattle.tl_checkpoint.proofs.NoteTexts.{can_be_signed}
use Rattle.tl_run.proofs.checkpoint.checkpoint_of.Goals as goal

pub returns-in-Ok-clause-note : goal.returns-in-Ok-clause-note
returns-in-Ok-clause-note g c = can_be_signed (string_bytes c.in-Ok.text) _ (IsUtf8-string_bytes c.in-Ok.text) c.in-Ok.ensures.0 c.in-Ok.ensures.1

pub unreachable-requires : goal.unreachable-requires
unreachable-requires g c = grind (arith, common_steps)
