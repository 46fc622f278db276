use Rattle.std.proofs.Common.{◌≡◌, List, ℕ, ◌++◌, Ok, Err, sym, ap, ◌∙◌, arith}
use Rattle.std.proofs.lemmas.Grind.{common_steps}
use Rattle.std.specs.Prelude.{IfErr, Result}
use Rattle.tl_text.specs.Text.{HasNoControl, IsSize}
use Rattle.tl_tile.specs.Bundle.{AreShortEntries, bundle_text}
use Rattle.tl_bucket.specs.Commits.{Commit, IsCommit, commit_front}
use Rattle.tl_bucket.proofs.CommitTexts.{one_front}
use Rattle.tl_bucket.proofs.commit.read_commit.Goals as goal

-- what always holds, holds if a call fails
anyhow : {X E P : Type 0} (r : Result X E) (fault : E) → P → IfErr r (λ f. f ≡ fault → P)
anyhow (Ok _) fault holds = tt
anyhow (Err _) fault holds = λ _. holds

pub returns-in_default-clause-none : goal.returns-in_default-clause-none
returns-in_default-clause-none g c = λ _ other is. c.in_default.ensures other.start other.token (bundle_text other.entries) is.bounded is.plain is.spelled

pub returns-then-not-are_entries-clause-none : goal.returns-then-not-are_entries-clause-none
returns-then-not-are_entries-clause-none g c = λ _ other is.
    let front = c.in-Some.ensures in
    let same = one_front c.in-Some.start other.start c.in-Some.token.now other.token c.in-Some.rest.now (bundle_text other.entries) front.0 is.bounded front.1 is.plain (sym front.2 ∙ is.spelled) in
    c.if-not-are_entries.ensures other.entries is.short same.2

-- bytes behind a front that are those of entries are a commit's
commit_there : (bytes : List ℕ) (start : ℕ) (token rest : List ℕ) → IsSize start → HasNoControl token → bytes ≡ commit_front start token ++ rest
    → ((entries : List (List ℕ)) × AreShortEntries entries × (rest ≡ bundle_text entries)) → (c : Commit) × IsCommit bytes c
commit_there bytes start token rest small plain front all =
    let commit : Commit = record { start = start; token = token; entries = all.0 } in
    (commit, record { bounded = small; plain = plain; short = all.1; spelled = front ∙ ap (λ (t : List ℕ). commit_front start token ++ t) all.2 })

pub returns-in_err-entries-clause-memory : goal.returns-in_err-entries-clause-memory
returns-in_err-entries-clause-memory g c =
    anyhow c.from_residual-in_err-entries.result _ (commit_there c.args.bytes.now c.in-Some.start c.in-Some.token.now c.in-Some.rest.now c.in-Some.ensures.0 c.in-Some.ensures.1 c.in-Some.ensures.2 c.if-not-are_entries.ensures)

pub returns-in_err-token-clause-memory : goal.returns-in_err-token-clause-memory
returns-in_err-token-clause-memory g c =
    anyhow c.from_residual.result _ (commit_there c.args.bytes.now c.in-Some.start c.in-Some.token.now c.in-Some.rest.now c.in-Some.ensures.0 c.in-Some.ensures.1 c.in-Some.ensures.2 c.if-not-are_entries.ensures)

pub returns-then-not-are_entries-clause-memory : goal.returns-then-not-are_entries-clause-memory
returns-then-not-are_entries-clause-memory g c = grind (arith, common_steps)
