-- Witnesses that can be required.
use Rattle.tl_checkpoint.specs.Quorum.{AreApart}
use Rattle.tl_publisher.specs.Signed.{Quorum}
use Rattle.tl_publisher.specs.Operating.{Operated}
use Rattle.tl_publisher.specs.Proposing.{IsEarly, MayNeed}

-- these witnesses can be required
abbrev pub MayRequire : {A : Type 0} → Operated A → Quorum → Type 0
MayRequire o q = IsEarly o × MayNeed o q × AreApart q.witnesses
