-- Putting a commit.
use Rattle.std.proofs.Common.{◌≡◌, ℕ, ◌+◌, ◌++◌, inr, None, ap, subst, ◌∙◌}
use Rattle.tl_hash.specs.Bytes.{Bytes}
use Rattle.tl_s3.specs.Objects.{Place}
use Rattle.tl_s3.specs.declared.object.Condition.TheVariants.{Absent}
use Rattle.tl_bucket.specs.Answered.{WasThere}
use Rattle.tl_bucket.specs.Claims.{Claims, CommitsEntries, WasCommitted, no_claims, token_of}
use Rattle.tl_bucket.specs.Commits.{commit_front}
use Rattle.tl_bucket.specs.Shelved.{commit_at}

-- what was put under the next number commits the entries
was_committed : (p : Place) (c : Claims) (number : ℕ) (bytes slice : Bytes) → number ≡ c.number → slice ≡ bytes → bytes ≡ commit_front c.start (token_of c.other c.token) ++ c.entries
    → WasThere p (commit_at number slice) Absent → WasCommitted p c
was_committed p c number bytes slice same is front there =
    subst (λ (text : Bytes). WasThere p (commit_at c.number text) Absent) (is ∙ front)
    (subst (λ (n : ℕ). WasThere p (commit_at n slice) Absent) same there)

pub claimed : (p : Place) (c after : Claims) (number next : ℕ) (bytes slice : Bytes) → number ≡ c.number → next ≡ number + 1 → slice ≡ bytes → bytes ≡ commit_front c.start (token_of c.other c.token) ++ c.entries
    → WasThere p (commit_at number slice) Absent → after ≡ no_claims next c.end c.token None → CommitsEntries p c after
claimed p c after number next bytes slice same more is front there gone =
    inr (was_committed p c number bytes slice same is front there, gone ∙ ap (λ (n : ℕ). no_claims n c.end c.token None) (more ∙ ap (λ (n : ℕ). n + 1) same))
