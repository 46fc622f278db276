use Rattle.std.proofs.Common.{arith}
use Rattle.std.proofs.lemmas.Grind.{common_steps}
use Rattle.tl_source.proofs.url.is_address_byte.Goals as goal

pub returns-else-byte-eq58 : goal.returns-else-byte-eq58
returns-else-byte-eq58 c = grind (arith, common_steps)

pub returns-then-byte-eq58 : goal.returns-then-byte-eq58
returns-then-byte-eq58 c = grind (arith, common_steps)
