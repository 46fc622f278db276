use Rattle.std.proofs.Common.{Ok}
use Rattle.tl_s3.specs.Answers.{put_told}
use Rattle.tl_s3.specs.Objects.{content_of, place_of}
use Rattle.tl_bucket.proofs.Answers.{answered_put}
use Rattle.tl_bucket.proofs.client.Client.put_over.Goals as goal

pub returns-in-Ok : goal.returns-in-Ok
returns-in-Ok g c =
    answered_put c.args.self.now (place_of c.self.inside.bucket) c.in_ok-moment.moment (content_of c.args.object.now) c.args.condition _ _ (put_told (Ok c.in-Ok.reply)) c.self.view_is c.in-Ok.ensures.table
