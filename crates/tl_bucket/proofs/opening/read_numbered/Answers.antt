use Rattle.std.proofs.Common.{Option, subst, map, vec_items, List, ℕ}
use Rattle.tl_bucket.specs.Commits.{Commit, IsCommit}
use Rattle.tl_bucket.specs.Inner.Outcomes.{Finds}
use Rattle.tl_bucket.specs.Shelved.{commit_path}
use Rattle.tl_bucket.specs.declared.asking.Found.{Found}
use Rattle.tl_http.specs.Post.{value_bytes}
use Rattle.tl_bucket.proofs.Answers.{read}
use Rattle.tl_bucket.proofs.opening.read_numbered.Goals as goal

pub returns-in-Ok : goal.returns-in-Ok
returns-in-Ok g c =
    let found = subst (λ (f : Option Found). Finds c.args.client.now (commit_path c.args.number) f) c.in-Some.is c.in_ok-found.ensures in
    let commit : Commit = record { start = c.in-Ok.commit.start; token = c.in-Ok.commit.token.items; entries = map vec_items c.in-Ok.commit.entries.items } in
    (c.in-Some.found.body.items, read c.args.client.now (commit_path c.args.number) c.in-Some.found.body.items (value_bytes c.in-Some.found.etag) found, subst (λ (bytes : List ℕ). IsCommit bytes commit) c.as_slice.ensures.value c.in-Ok.ensures.read)
