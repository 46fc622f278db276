use Rattle.std.proofs.Common.{arith}
use Rattle.std.proofs.lemmas.Grind.{common_steps}
use Rattle.tl_publisher.proofs.Moves.{admits, tells, learns}
use Rattle.tl_publisher.proofs.board_writer.BoardWriter.reader.Goals as goal

pub reader-requires : goal.reader-requires
reader-requires g c = admits

pub tell-requires : goal.tell-requires
tell-requires g c = tells _ _

pub learn-requires-clause-rule : goal.learn-requires-clause-rule
learn-requires-clause-rule g c = learns _ _ _ _

pub invariant_of-self : goal.invariant_of-self
invariant_of-self g c = grind (arith, common_steps)

pub learn-requires-clause-own : goal.learn-requires-clause-own
learn-requires-clause-own g c = grind (arith, common_steps)
