use Rattle.tl_ed25519.proofs.Signatures.{unsound, judged}
use Rattle.tl_ed25519.proofs.verifying.is_valid_public_key.Goals as goal

pub returns-in_default : goal.returns-in_default
returns-in_default c = unsound c.args.key.now c.decode.result c.decode.ensures.value c.in_default.is

pub returns : goal.returns
returns c =
    judged c.args.key.now c.decode.result c.in-Some.point c.has_small_order.result c.decode.ensures.value c.in-Some.is
    c.has_small_order.ensures
