use Rattle.std.proofs.Common.{arith}
use Rattle.std.proofs.lemmas.Grind.{common_steps}
use Rattle.tl_command.proofs.proof_text.read_inclusion.Goals as goal

pub returns-in_default-2-clause-proof : goal.returns-in_default-2-clause-proof
returns-in_default-2-clause-proof g c = grind (arith, common_steps)

pub returns-in_default-clause-proof : goal.returns-in_default-clause-proof
returns-in_default-clause-proof g c = grind (arith, common_steps)

pub returns-in_default-two_hashes-clause-proof : goal.returns-in_default-two_hashes-clause-proof
returns-in_default-two_hashes-clause-proof g c = grind (arith, common_steps)

pub returns-in_default-two_numbers-clause-proof : goal.returns-in_default-two_numbers-clause-proof
returns-in_default-two_numbers-clause-proof g c = grind (arith, common_steps)

pub returns-then-ne-clause-proof : goal.returns-then-ne-clause-proof
returns-then-ne-clause-proof g c = grind (arith, common_steps)
