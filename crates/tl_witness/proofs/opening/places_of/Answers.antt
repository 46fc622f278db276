use Rattle.std.proofs.Common.{arith}
use Rattle.std.proofs.lemmas.Grind.{common_steps}
use Rattle.tl_witness.proofs.opening.places_of.Goals as goal

pub returns-in-Err-clause-err : goal.returns-in-Err-clause-err
returns-in-Err-clause-err g c = grind (arith, common_steps)

pub returns-in-Err-places_in-clause-err : goal.returns-in-Err-places_in-clause-err
returns-in-Err-places_in-clause-err g c = grind (arith, common_steps)

pub returns-in-Ok-None-clause-ok : goal.returns-in-Ok-None-clause-ok
returns-in-Ok-None-clause-ok g c = grind (arith, common_steps)

pub returns-in-Ok-None-places_in-clause-ok : goal.returns-in-Ok-None-places_in-clause-ok
returns-in-Ok-None-places_in-clause-ok g c = grind (arith, common_steps)
