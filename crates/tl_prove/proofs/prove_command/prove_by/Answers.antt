use Rattle.std.proofs.Common.{inr}
use Rattle.tl_policy.specs.Terms.{terms_of}
use Rattle.tl_prove.proofs.prove_command.prove_by.Goals as goal

pub returns : goal.returns
returns g c = inr (terms_of c.in-Ok.policy, c.in-Ok.ensures, (c.in-Err-prove.fault, c.with_lack.ensures, c.in-Err-prove.ensures.refused))
