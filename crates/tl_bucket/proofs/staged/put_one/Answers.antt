use Rattle.std.proofs.Common.{ap, subst, ◌∙◌}
use Rattle.tl_http.specs.Post.{value_bytes}
use Rattle.tl_hash.specs.Bytes.{Bytes}
use Rattle.tl_s3.specs.Objects.{Content, content_of}
use Rattle.tl_s3.specs.declared.object.Condition.TheVariants.{Always}
use Rattle.tl_bucket.specs.Answered.{WasThere}
use Rattle.tl_bucket.specs.Inner.Outcomes.{Concludes}
use Rattle.tl_bucket.specs.Shelved.{content_at}
use Rattle.tl_bucket.specs.declared.asking.PutOutcome.{PutOutcome}
use Rattle.tl_bucket.proofs.Answers.{there}
use Rattle.tl_bucket.proofs.staged.put_one.Goals as goal

pub returns-in-Done : goal.returns-in-Done
returns-in-Done g c =
    let object : Content = content_of c.object_of-object.result in
    let done = there c.args.client.now object Always (value_bytes c.in-Done.field-0) (subst (λ (o : PutOutcome). Concludes c.args.client.now object Always o) c.in-Done.is c.in_ok-put.ensures) in
    let is = c.object_of-object.ensures (c.as_str.ensures.value ∙ c.in_ok-path.ensures) ∙ ap (λ (bytes : Bytes). content_at (c.args.staged.now.resource, bytes)) c.as_slice.ensures.value in
    subst (λ (k : Content). WasThere c.args.client.now k Always) is done
