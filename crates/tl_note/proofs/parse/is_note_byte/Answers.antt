use Rattle.std.proofs.Common.{arith}
use Rattle.std.proofs.lemmas.Grind.{common_steps}
use Rattle.tl_note.proofs.parse.is_note_byte.Goals as goal

pub returns-else-byte-ge32 : goal.returns-else-byte-ge32
returns-else-byte-ge32 c = grind (arith, common_steps)

pub returns-then-byte-ge32 : goal.returns-then-byte-ge32
returns-then-byte-ge32 c = grind (arith, common_steps)
