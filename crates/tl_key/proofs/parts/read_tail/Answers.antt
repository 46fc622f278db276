use Rattle.std.proofs.Common.{refl, arith}
use Rattle.std.proofs.lemmas.Grind.{common_steps}
use Rattle.tl_key.proofs.PartsLemmas.{no_tail}
use Rattle.tl_key.proofs.parts.read_tail.Goals as goal

pub returns-in_default : goal.returns-in_default
returns-in_default c = λ digits bytes is. no_tail c.args.rest.now _ digits bytes refl (rw c.in_default.is at c.read_field.ensures) is

pub returns : goal.returns
returns c = grind (arith, common_steps)
