use Rattle.std.proofs.Common.{Option, [], subst}
use Rattle.tl_folder.specs.Places.{place_of}
use Rattle.tl_tile.specs.declared.resource.Resource.TheVariants as resource
use Rattle.tl_bucket.specs.Answered.{WasReadWith}
use Rattle.tl_bucket.specs.Inner.Outcomes.{Finds}
use Rattle.tl_bucket.specs.declared.asking.Found.{Found}
use Rattle.tl_bucket.proofs.noting.find_shown.Goals as goal

pub returns : goal.returns
returns g c =
    let found = subst (λ (f : Option Found). Finds c.args.client.now (place_of [] resource.Checkpoint) f) c.in-Some.is c.in_ok-found.ensures in
    let tag = c.in_ok-etag.ensures in
    (tag.0, subst (WasReadWith c.args.client.now (place_of [] resource.Checkpoint) c.in-Some.found.body.items) tag.1 found, tag.2)
