use Rattle.std.proofs.Common.{◌≡◌, ℕ, List, Some, None, sym, ap, ◌∙◌, take, arith}
use Rattle.std.specs.Prelude.{position}
use Rattle.std.proofs.lemmas.Str.{IsCharBoundary-before_ascii, IsCharBoundary-after_ascii}
use Rattle.tl_policy.specs.PolicyText.{is_blank}
use Rattle.tl_policy.proofs.WordLaws.{blank_at, cut_found, not_cut, no_place}
use Rattle.tl_policy.proofs.words.cut_blank.Goals as goal

pub range-requires-clause-end_boundary : goal.range-requires-clause-end_boundary
range-requires-clause-end_boundary c =
    let found : position is_blank c.args.text.now ≡ Some c.in-Some.end = ap (λ (t : List ℕ). position is_blank t) (sym c.as_bytes.ensures.value) ∙ sym c.in-Some.ensures in
    let at = blank_at c.args.text.now c.in-Some.end found in
    IsCharBoundary-before_ascii c.args.text.now c.in-Some.end at.0 at.1

pub range_from-requires : goal.range_from-requires
range_from-requires c =
    let found : position is_blank c.args.text.now ≡ Some c.in-Some.end = ap (λ (t : List ℕ). position is_blank t) (sym c.as_bytes.ensures.value) ∙ sym c.in-Some.ensures in
    let at = blank_at c.args.text.now c.in-Some.end found in
    λ _. IsCharBoundary-after_ascii c.args.text.now c.in-Some.end c.utf8.text at.0 at.1

pub returns-in-Some-clause-cut : goal.returns-in-Some-clause-cut
returns-in-Some-clause-cut c =
    let found : position is_blank c.args.text.now ≡ Some c.in-Some.end = ap (λ (t : List ℕ). position is_blank t) (sym c.as_bytes.ensures.value) ∙ sym c.in-Some.ensures in
    let front : c.range.result.now ≡ take c.in-Some.end c.args.text.now = c.range.ensures.value ∙ ap (λ (n : ℕ). take n c.args.text.now) (omega arith) in
    cut_found c.args.text.now c.range.result.now c.range_from.result.now c.in-Some.end found front c.range_from.ensures.value

pub returns-in-None-clause-cut : goal.returns-in-None-clause-cut
returns-in-None-clause-cut c =
    let none : position is_blank c.args.text.now ≡ None = ap (λ (t : List ℕ). position is_blank t) (sym c.as_bytes.ensures.value) ∙ sym c.in-None.ensures in
    not_cut is_blank c.args.text.now (no_place is_blank c.args.text.now none)
