use Rattle.tl_bucket.proofs.Grown.{commits_led}
use Rattle.tl_bucket.proofs.law.commits_stay.Goals as goal

pub returns : goal.returns
returns c = λ setting w later leads. commits_led setting leads.0 w later leads.1
