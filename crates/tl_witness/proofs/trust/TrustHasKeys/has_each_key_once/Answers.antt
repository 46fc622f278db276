use Rattle.std.proofs.Common.{refl}
use Rattle.tl_witness.proofs.trust.TrustHasKeys.has_each_key_once.Goals as goal

pub returns-then-is_key_twice : goal.returns-then-is_key_twice
returns-then-is_key_twice g c =
    let twice = rw c.as_slice.ensures.value at (c.if-is_key_twice.ensures.0 refl) in
    (λ f. absurd cc, λ once. absurd (once twice))
