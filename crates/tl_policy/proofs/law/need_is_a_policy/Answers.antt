use Rattle.tl_policy.proofs.NeedLaws.{need_satisfied}
use Rattle.tl_policy.proofs.law.need_is_a_policy.Goals as goal

pub returns : goal.returns
returns c = need_satisfied
