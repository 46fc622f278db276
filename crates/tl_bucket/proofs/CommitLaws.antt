-- Bytes are those of at most one commit.
use Rattle.std.proofs.Common.{◌≡◌, ℕ, List, sym, ap, ◌∙◌, arith}
use Rattle.std.proofs.lemmas.Fmt.{decimal_injective}
use Rattle.tl_hash.specs.Bytes.{Bytes}
use Rattle.tl_tile.specs.Bundle.{bundle_text}
use Rattle.tl_bucket.specs.Commits.{Commit, IsCommit}
use Rattle.tl_bucket.proofs.CommitTexts.{one_front}
use Rattle.tl_bucket.proofs.CommitEntries.{one_list}

abbrev made : ℕ → Bytes → List Bytes → Commit
made start token entries = record { start = start; token = token; entries = entries }

pub one_commit : (bytes : Bytes) (c d : Commit) → IsCommit bytes c → IsCommit bytes d → c ≡ d
one_commit bytes c d is other =
    let front = one_front c.start d.start c.token d.token (bundle_text c.entries) (bundle_text d.entries) is.bounded other.bounded is.plain other.plain (sym is.spelled ∙ other.spelled) in
    let starts : c.start ≡ d.start = decimal_injective c.start d.start (omega (arith, is.bounded)) (omega (arith, other.bounded)) front.0 in
    let entries : c.entries ≡ d.entries = one_list c.entries d.entries is.short other.short front.2 in
    ap (λ (s : ℕ). made s c.token c.entries) starts ∙ ap (λ (t : Bytes). made d.start t c.entries) front.1 ∙ ap (λ (es : List Bytes). made d.start d.token es) entries
