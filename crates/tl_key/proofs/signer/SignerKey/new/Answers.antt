use Rattle.std.proofs.Common.{arith}
use Rattle.std.proofs.lemmas.Grind.{common_steps}
use Rattle.tl_key.proofs.signer.SignerKey.new.Goals as goal

pub made-requires-after_bounds : goal.made-requires-after_bounds
made-requires-after_bounds g c = λ κs bounds. record { lawful = c.is_key_name.ensures.0 c.if-not-is_key_name.false; id_is = rw (c.public_key.ensures, c.KIND.ensures) at c.id_of-id.ensures }

pub returns : goal.returns
returns g c = grind (arith, common_steps)
