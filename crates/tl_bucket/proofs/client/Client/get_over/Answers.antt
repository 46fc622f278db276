use Rattle.std.proofs.Common.{Ok}
use Rattle.tl_s3.specs.Answers.{get_told}
use Rattle.tl_s3.specs.Objects.{place_of}
use Rattle.tl_bucket.proofs.Answers.{answered_get}
use Rattle.tl_bucket.proofs.client.Client.get_over.Goals as goal

pub returns-in-Ok : goal.returns-in-Ok
returns-in-Ok g c =
    answered_get c.args.self.now (place_of c.self.inside.bucket) c.in_ok-moment.moment c.args.path.now c.args.limit _ _ (get_told (Ok c.in-Ok.reply)) c.self.view_is c.in-Ok.ensures.table
