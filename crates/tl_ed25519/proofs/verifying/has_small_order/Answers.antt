use Rattle.tl_ed25519.proofs.Signatures.{at_small_order}
use Rattle.tl_ed25519.proofs.verifying.has_small_order.Goals as goal

pub returns : goal.returns
returns c =
    at_small_order c.args.point c.multiply_public-multiple.result c.neutral-neutral.result c.encode-bytes.result c.encode-neutral_bytes.result
    c.equal_bytes.result c.multiply_public-multiple.ensures c.encode-bytes.ensures c.neutral-neutral.ensures c.encode-neutral_bytes.ensures
    c.equal_bytes.ensures
