use Rattle.tl_policy.proofs.MoreLaws.{more_satisfy}
use Rattle.tl_policy.proofs.law.more_witnesses_satisfy.Goals as goal

pub returns : goal.returns
returns c = more_satisfy
