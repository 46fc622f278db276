use Rattle.tl_feed.proofs.Growths.{accepted_from}
use Rattle.tl_feed.proofs.law.honest_growth_is_accepted.Goals as goal

pub returns : goal.returns
returns g c = accepted_from (g.S.ResourceSource.may_answer c.args._source.now)
