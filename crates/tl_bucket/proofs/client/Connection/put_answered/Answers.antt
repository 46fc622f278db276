use Rattle.tl_s3.specs.Objects.{content_of}
use Rattle.tl_bucket.proofs.Answers.{concluded}
use Rattle.tl_bucket.proofs.client.Connection.put_answered.Goals as goal

pub returns-in-Ok : goal.returns-in-Ok
returns-in-Ok g c = concluded c.args.client.now (content_of c.args.object.now) c.args.condition c.in-Ok.reply c.outcome_of.result c.in-Ok.ensures c.outcome_of.ensures
