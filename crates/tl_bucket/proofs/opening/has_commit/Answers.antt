use Rattle.std.proofs.Common.{Option, subst}
use Rattle.tl_http.specs.Post.{value_bytes}
use Rattle.tl_bucket.specs.Inner.Outcomes.{Finds}
use Rattle.tl_bucket.specs.Shelved.{commit_path}
use Rattle.tl_bucket.specs.declared.asking.Found.{Found}
use Rattle.tl_bucket.proofs.Answers.{read}
use Rattle.tl_bucket.proofs.opening.has_commit.Goals as goal

pub returns : goal.returns
returns g c =
    let found = subst (λ (f : Option Found). Finds c.args.client.now (commit_path c.args.number) f) c.in-Some.is c.in_ok-_found.ensures in
    (c.in-Some._found.body.items, read c.args.client.now (commit_path c.args.number) c.in-Some._found.body.items (value_bytes c.in-Some._found.etag) found)
