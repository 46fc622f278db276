use Rattle.std.proofs.Common.{arith}
use Rattle.std.proofs.lemmas.Grind.{common_steps}
use Rattle.tl_serve.proofs.witness_server.fn.answer_all.scope.Goals as goal

pub answer_in-requires-send-H : goal.answer_in-requires-send-H
answer_in-requires-send-H g c = grind (arith, common_steps)

pub answer_in-requires-sync-H : goal.answer_in-requires-sync-H
answer_in-requires-sync-H g c = grind (arith, common_steps)
