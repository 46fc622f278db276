use Rattle.std.proofs.Common.{arith}
use Rattle.std.proofs.lemmas.Grind.{common_steps}
use Rattle.tl_sequencer.proofs.lane.Lane.end.Goals as goal

pub pour-requires-clause-entries : goal.pour-requires-clause-entries
pour-requires-clause-entries g c = grind (arith, common_steps)

pub pour-requires-clause-places : goal.pour-requires-clause-places
pour-requires-clause-places g c = grind (arith, common_steps)

pub pour-requires-clause-who : goal.pour-requires-clause-who
pour-requires-clause-who g c = grind (arith, common_steps)

pub returns-clause-ring : goal.returns-clause-ring
returns-clause-ring g c = grind (arith, common_steps)

pub returns-clause-same : goal.returns-clause-same
returns-clause-same g c = grind (arith, common_steps)

pub returns-clause-taken : goal.returns-clause-taken
returns-clause-taken g c = grind (arith, common_steps)

pub returns-then-count-room-clause-err : goal.returns-then-count-room-clause-err
returns-then-count-room-clause-err g c = grind (arith, common_steps)

pub returns-then-count-room-clause-ring : goal.returns-then-count-room-clause-ring
returns-then-count-room-clause-ring g c = grind (arith, common_steps)

pub returns-then-count-room-clause-same : goal.returns-then-count-room-clause-same
returns-then-count-room-clause-same g c = grind (arith, common_steps)

pub returns-then-count-room-clause-why : goal.returns-then-count-room-clause-why
returns-then-count-room-clause-why g c = grind (arith, common_steps)

pub returns-then-is_err-clause-err : goal.returns-then-is_err-clause-err
returns-then-is_err-clause-err g c = grind (arith, common_steps)

pub returns-then-is_err-clause-ring : goal.returns-then-is_err-clause-ring
returns-then-is_err-clause-ring g c = grind (arith, common_steps)

pub returns-then-is_err-clause-same : goal.returns-then-is_err-clause-same
returns-then-is_err-clause-same g c = grind (arith, common_steps)

pub returns-then-is_err-clause-why : goal.returns-then-is_err-clause-why
returns-then-is_err-clause-why g c = grind (arith, common_steps)
