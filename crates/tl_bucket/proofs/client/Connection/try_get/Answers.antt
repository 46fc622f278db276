use Rattle.tl_bucket.proofs.Answers.{was_missing, was_read}
use Rattle.tl_bucket.proofs.client.Connection.try_get.Goals as goal

pub returns-in-Found : goal.returns-in-Found
returns-in-Found g c = was_read c.args.client.now c.args.path.now c.args.limit c.in_ok-reply.reply c.in_ok-reply.ensures c.in-Found.is

pub returns-in-Missing : goal.returns-in-Missing
returns-in-Missing g c = was_missing c.args.client.now c.args.path.now c.args.limit c.in_ok-reply.reply c.in_ok-reply.ensures c.in-Missing.is
