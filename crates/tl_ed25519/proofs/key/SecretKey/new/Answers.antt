use Rattle.tl_ed25519.proofs.Signatures.{at_secret, at_prefix, at_public_key}
use Rattle.tl_ed25519.proofs.key.SecretKey.new.Goals as goal

pub invariant_of-result : goal.invariant_of-result
invariant_of-result c =
    let a = at_secret c.args.seed.now c.digest_of-digest.result c.secret_of-number.result c.digest_of-digest.ensures c.secret_of-number.ensures in (
      a,
      at_prefix c.args.seed.now c.digest_of-digest.result c.second_half.result.now c.copy_of-prefix.result
          c.digest_of-digest.ensures c.second_half.ensures.value c.copy_of-prefix.ensures,
      at_public_key c.args.seed.now c.multiple_of_base-public.result c.secret_of-number.result c.again.result
          a c.again.ensures c.multiple_of_base-public.ensures,
    )
