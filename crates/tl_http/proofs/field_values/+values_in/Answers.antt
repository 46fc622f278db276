use Rattle.std.proofs.Common.{◌≡◌, ◌∙◌, ◌<◌, true, false, List, ℕ, [], ◌∷◌, ap, sym, subst, slice_index_or, length, arith}
use Rattle.std.specs.Str.{str_eq_ignore_ascii_case}
use Rattle.std.proofs.lemmas.Slice.Eq.{bytes_eq-Decides}
use Rattle.httparse.specs.Spans.{header_bytes}
use Rattle.tl_http.specs.Values.{AreValues}
use Rattle.tl_http.proofs.FieldLemmas.{values_skip, values_keep, no_span, same_test}
use Rattle.tl_http.proofs.field_values.+values_in.Goals as goal

pub returns-then-not-eq_ignore_ascii_case : goal.returns-then-not-eq_ignore_ascii_case
returns-then-not-eq_ignore_ascii_case t c =
    let some : 0 < length c.args.headers.now = omega (arith, c.in-len1-up.len_at_least) in
    let same : c.eq_ignore_ascii_case.result ≡ str_eq_ignore_ascii_case c.of.result.now c.args.name.now =
    same_test c.eq_ignore_ascii_case.result _ c.eq_ignore_ascii_case.ensures.test.0 c.eq_ignore_ascii_case.ensures.test.1 (bytes_eq-Decides _ _) in
    let off : str_eq_ignore_ascii_case (header_bytes c.args.buf.now (slice_index_or c.args.headers.now 0 no_span)).0 c.args.name.now ≡ false =
    ap (λ (l : List ℕ). str_eq_ignore_ascii_case l c.args.name.now) (sym c.of.ensures) ∙ (sym same ∙ c.if-not-eq_ignore_ascii_case.true) in
    subst (λ (l : List (List ℕ)). AreValues l c.values_in-below.result) (sym (values_skip (header_bytes c.args.buf.now) c.args.name.now c.args.headers.now no_span some off)) c.values_in-below.ensures

pub returns-in-None : goal.returns-in-None
returns-in-None t c =
    let some : 0 < length c.args.headers.now = omega (arith, c.in-len1-up.len_at_least) in
    let same : c.eq_ignore_ascii_case.result ≡ str_eq_ignore_ascii_case c.of.result.now c.args.name.now =
    same_test c.eq_ignore_ascii_case.result _ c.eq_ignore_ascii_case.ensures.test.0 c.eq_ignore_ascii_case.ensures.test.1 (bytes_eq-Decides _ _) in
    let on : str_eq_ignore_ascii_case (header_bytes c.args.buf.now (slice_index_or c.args.headers.now 0 no_span)).0 c.args.name.now ≡ true =
    ap (λ (l : List ℕ). str_eq_ignore_ascii_case l c.args.name.now) (sym c.of.ensures) ∙ (sym same ∙ c.if-not-eq_ignore_ascii_case.false) in
    values_keep (header_bytes c.args.buf.now) c.args.name.now c.args.headers.now no_span some on
    ∙ (ap (λ (l : List (List ℕ)). (header_bytes c.args.buf.now (slice_index_or c.args.headers.now 0 no_span)).1 ∷ l) c.in-None.ensures
    ∙ ap (λ (v : List ℕ). v ∷ []) (sym c.of-in-None.ensures))

pub returns-in-One : goal.returns-in-One
returns-in-One t c =
    let some : 0 < length c.args.headers.now = omega (arith, c.in-len1-up.len_at_least) in
    let same : c.eq_ignore_ascii_case.result ≡ str_eq_ignore_ascii_case c.of.result.now c.args.name.now =
    same_test c.eq_ignore_ascii_case.result _ c.eq_ignore_ascii_case.ensures.test.0 c.eq_ignore_ascii_case.ensures.test.1 (bytes_eq-Decides _ _) in
    let on : str_eq_ignore_ascii_case (header_bytes c.args.buf.now (slice_index_or c.args.headers.now 0 no_span)).0 c.args.name.now ≡ true =
    ap (λ (l : List ℕ). str_eq_ignore_ascii_case l c.args.name.now) (sym c.of.ensures) ∙ (sym same ∙ c.if-not-eq_ignore_ascii_case.false) in
    let all = values_keep (header_bytes c.args.buf.now) c.args.name.now c.args.headers.now no_span some on in
    let long = ap (λ (l : List (List ℕ)). length l) all in
    let one = ap (λ (l : List (List ℕ)). length l) c.in-One.ensures in
    omega (arith, long, one)

pub returns-in-More : goal.returns-in-More
returns-in-More t c =
    let some : 0 < length c.args.headers.now = omega (arith, c.in-len1-up.len_at_least) in
    let same : c.eq_ignore_ascii_case.result ≡ str_eq_ignore_ascii_case c.of.result.now c.args.name.now =
    same_test c.eq_ignore_ascii_case.result _ c.eq_ignore_ascii_case.ensures.test.0 c.eq_ignore_ascii_case.ensures.test.1 (bytes_eq-Decides _ _) in
    let on : str_eq_ignore_ascii_case (header_bytes c.args.buf.now (slice_index_or c.args.headers.now 0 no_span)).0 c.args.name.now ≡ true =
    ap (λ (l : List ℕ). str_eq_ignore_ascii_case l c.args.name.now) (sym c.of.ensures) ∙ (sym same ∙ c.if-not-eq_ignore_ascii_case.false) in
    let all = values_keep (header_bytes c.args.buf.now) c.args.name.now c.args.headers.now no_span some on in
    let long = ap (λ (l : List (List ℕ)). length l) all in
    let several = c.in-More.ensures in
    omega (arith, long, several)
