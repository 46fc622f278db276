use Rattle.std.proofs.Common.{ap, arith, subst}
use Rattle.std.proofs.lemmas.Grind.{common_steps}
use Rattle.tl_s3.specs.declared.object.Condition.TheVariants.{Absent}
use Rattle.tl_bucket.specs.Claims.{Claims}
use Rattle.tl_bucket.specs.Inner.Outcomes.{Concludes}
use Rattle.tl_bucket.specs.Shelved.{commit_at}
use Rattle.tl_bucket.specs.declared.asking.PutOutcome.{PutOutcome}
use Rattle.tl_http.specs.Post.{value_bytes}
use Rattle.tl_bucket.proofs.Answers.{there}
use Rattle.tl_bucket.proofs.Claimed.{claimed}
use Rattle.tl_bucket.proofs.claims.Claims.claim.Goals as goal

pub returns-clause-claimed : goal.returns-clause-claimed
returns-clause-claimed g c =
    let done = subst (λ (o : PutOutcome). Concludes c.args.client.now (commit_at c.self.inside.number c.as_slice.result.now) Absent o) c.in-Done.is c.in_ok-put_commit.ensures in
    claimed c.args.client.now c.args.self.now c.go_on.new.self c.self.inside.number c.in-Some.next c.in_ok-bytes.bytes.items c.as_slice.result.now (ap (λ (x : Claims). x.number) c.self.view_is) (omega (arith, c.in-Some.ensures))
    c.as_slice.ensures.value c.in_ok-bytes.ensures (there c.args.client.now (commit_at c.self.inside.number c.as_slice.result.now) Absent (value_bytes c.in-Done.field-0) done) c.go_on.ensures

pub returns-clause-none : goal.returns-clause-none
returns-clause-none g c = grind (arith, common_steps)

pub returns-in-Refused-clause-unchanged : goal.returns-in-Refused-clause-unchanged
returns-in-Refused-clause-unchanged g c = grind (arith, common_steps)

pub returns-then-is_empty-clause-claimed : goal.returns-then-is_empty-clause-claimed
returns-then-is_empty-clause-claimed g c = grind (arith, common_steps)

pub returns-then-is_empty-clause-none : goal.returns-then-is_empty-clause-none
returns-then-is_empty-clause-none g c = grind (arith, common_steps)
