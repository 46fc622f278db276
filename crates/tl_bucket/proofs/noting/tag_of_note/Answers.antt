use Rattle.std.proofs.Common.{◌≡◌, Option, [], rules, subst}
use Rattle.tl_folder.specs.Places.{place_of}
use Rattle.tl_http.specs.Post.{value_bytes}
use Rattle.tl_tile.specs.declared.resource.Resource.TheVariants as resource
use Rattle.tl_bucket.specs.Inner.Outcomes.{Finds}
use Rattle.tl_bucket.specs.declared.asking.Found.{Found}
use Rattle.tl_bucket.proofs.Answers.{tag_of}
use Rattle.tl_bucket.proofs.noting.tag_of_note.Goals as goal

pub returns-in-Some : goal.returns-in-Some
returns-in-Some g c =
    let found = subst (λ (f : Option Found). Finds c.args.client.now (place_of [] resource.Checkpoint) f) c.in-Some.is c.in_ok-found.ensures in
    let same : c.in-Some.found.body.items ≡ c.args.note.now = search rules in
    tag_of c.args.client.now (place_of [] resource.Checkpoint) c.in-Some.found.body.items c.args.note.now (value_bytes c.in-Some.found.etag) c.own_tag.result found same c.own_tag.ensures
