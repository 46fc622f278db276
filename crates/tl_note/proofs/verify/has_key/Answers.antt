use Rattle.std.proofs.Common.{arith}
use Rattle.std.proofs.lemmas.Grind.{common_steps}
use Rattle.tl_note.proofs.verify.has_key.Goals as goal

pub widen-key_id : goal.widen-key_id
widen-key_id c = grind (arith, common_steps)
