use Rattle.std.proofs.Common.{arith}
use Rattle.std.proofs.lemmas.Grind.{common_steps}
use Rattle.tl_command.proofs.commands.audit.answer_of.Goals as goal

pub returns-in-Err-NotAccepted : goal.returns-in-Err-NotAccepted
returns-in-Err-NotAccepted g c = grind (arith, common_steps)

pub returns-in_ok-collision_text-in-Ok-Collision : goal.returns-in_ok-collision_text-in-Ok-Collision
returns-in_ok-collision_text-in-Ok-Collision g c = grind (arith, common_steps)
