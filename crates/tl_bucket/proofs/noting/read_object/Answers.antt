use Rattle.std.proofs.Common.{◌≡◌, Option, [], rules, subst, sym}
use Rattle.tl_folder.specs.Places.{place_of}
use Rattle.tl_http.specs.Post.{value_bytes}
use Rattle.tl_hash.specs.Bytes.{Bytes}
use Rattle.tl_bucket.specs.Answered.{WasRead}
use Rattle.tl_bucket.specs.Inner.Outcomes.{Finds}
use Rattle.tl_bucket.specs.declared.asking.Found.{Found}
use Rattle.tl_bucket.proofs.Answers.{read}
use Rattle.tl_bucket.proofs.noting.read_object.Goals as goal

pub returns : goal.returns
returns g c =
    let found = subst (λ (f : Option Found). Finds c.args.client.now c.as_str.result.now f) c.in-Some.is c.in_ok-found.ensures in
    let path : c.as_str.result.now ≡ place_of [] c.args.resource.now = subst (λ (at : Bytes). at ≡ place_of [] c.args.resource.now) (sym c.as_str.ensures.value) c.in_ok-path.ensures in
    let same : c.in-Some.found.body.items ≡ c.in_ok-from_slice.field-0.items = search rules in
    subst (λ (bytes : Bytes). WasRead c.args.client.now (place_of [] c.args.resource.now) bytes) same
    (subst (λ (at : Bytes). WasRead c.args.client.now at c.in-Some.found.body.items) path
    (read c.args.client.now c.as_str.result.now c.in-Some.found.body.items (value_bytes c.in-Some.found.etag) found))
