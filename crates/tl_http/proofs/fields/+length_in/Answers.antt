use Rattle.std.proofs.Common.{◌≡◌, ◌∙◌, ◌-◌, ◌<◌, drop, map, take, true, false, List, ℕ, ◌∷◌, ap, sym, subst, slice_index_or, length, arith}
use Rattle.std.specs.Prelude.{codes}
use Rattle.std.specs.Str.{str_eq_ignore_ascii_case}
use Rattle.std.proofs.lemmas.Slice.Eq.{bytes_eq-Decides}
use Rattle.httparse.specs.Spans.{header_bytes}
use Rattle.tl_http.specs.FieldValues.{values_of}
use Rattle.tl_http.specs.Inner.Framings.{SaysLength}
use Rattle.tl_http.proofs.FieldLemmas.{values_skip, values_keep, no_span, same_test}
use Rattle.tl_http.proofs.fields.+length_in.Goals as goal

pub returns-then-not-eq_ignore_ascii_case : goal.returns-then-not-eq_ignore_ascii_case
returns-then-not-eq_ignore_ascii_case t c =
    let name = codes "Content-Length" in
    let some : 0 < length c.args.headers.now = omega (arith, c.in-len1-up.len_at_least) in
    let same : c.eq_ignore_ascii_case.result ≡ str_eq_ignore_ascii_case c.of.result.now name =
    same_test c.eq_ignore_ascii_case.result _ c.eq_ignore_ascii_case.ensures.test.0 c.eq_ignore_ascii_case.ensures.test.1 (bytes_eq-Decides _ _) in
    let off : str_eq_ignore_ascii_case (header_bytes c.args.buf.now (slice_index_or c.args.headers.now 0 no_span)).0 name ≡ false =
    ap (λ (l : List ℕ). str_eq_ignore_ascii_case l name) (sym c.of.ensures) ∙ (sym same ∙ c.if-not-eq_ignore_ascii_case.true) in
    let skip = values_skip (header_bytes c.args.buf.now) name c.args.headers.now no_span some off in
    subst (λ (l : List (List ℕ)). SaysLength l c.length_in-below.result) (sym skip) c.length_in-below.ensures

pub returns : goal.returns
returns t c =
    let name = codes "Content-Length" in
    let some : 0 < length c.args.headers.now = omega (arith, c.in-len1-up.len_at_least) in
    let same : c.eq_ignore_ascii_case.result ≡ str_eq_ignore_ascii_case c.of.result.now name =
    same_test c.eq_ignore_ascii_case.result _ c.eq_ignore_ascii_case.ensures.test.0 c.eq_ignore_ascii_case.ensures.test.1 (bytes_eq-Decides _ _) in
    let on : str_eq_ignore_ascii_case (header_bytes c.args.buf.now (slice_index_or c.args.headers.now 0 no_span)).0 name ≡ true =
    ap (λ (l : List ℕ). str_eq_ignore_ascii_case l name) (sym c.of.ensures) ∙ (sym same ∙ c.if-not-eq_ignore_ascii_case.false) in
    let keep = values_keep (header_bytes c.args.buf.now) name c.args.headers.now no_span some on in
    let others : List (List ℕ) = values_of name (map (header_bytes c.args.buf.now) (take (length c.args.headers.now - 1) (drop 1 c.args.headers.now))) in
    let first = ap (λ (v : List ℕ). v ∷ others) c.of-2.ensures in
    subst (λ (l : List (List ℕ)). SaysLength l c.with_value.result) (first ∙ sym keep) (c.with_value.ensures others c.length_in-below.ensures)
