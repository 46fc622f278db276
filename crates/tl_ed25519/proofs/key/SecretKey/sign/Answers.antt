use Rattle.tl_ed25519.proofs.Signatures.{at_signature, hash_below}
use Rattle.tl_ed25519.proofs.key.SecretKey.sign.Goals as goal

pub multiply_add-s-requires-clause-first : goal.multiply_add-s-requires-clause-first
multiply_add-s-requires-clause-first c = hash_below c.number_of_two-r.result _ c.number_of_two-r.ensures

pub multiply_add-s-requires-clause-second : goal.multiply_add-s-requires-clause-second
multiply_add-s-requires-clause-second c = hash_below c.number_of_three-k.result _ c.number_of_three-k.ensures

pub returns : goal.returns
returns c =
    at_signature c.args.self.now c.self.inside.seed c.args.message.now c.self.inside.prefix c.multiple_of_base-point.result c.self.inside.public
    c.to_bytes-tail.result c.join.result c.self.inside.number c.again-2.result c.number_of_two-r.result c.again.result
    c.number_of_three-k.result c.multiply_add-s.result c.self.view_is c.self.invariant.0 c.self.invariant.1 c.self.invariant.2
    c.number_of_two-r.ensures c.again.ensures c.multiple_of_base-point.ensures c.number_of_three-k.ensures c.again-2.ensures
    c.multiply_add-s.ensures c.to_bytes-tail.ensures c.join.ensures
