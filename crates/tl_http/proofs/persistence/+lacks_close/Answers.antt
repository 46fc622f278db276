use Rattle.std.proofs.Common.{◌≡◌, ◌∙◌, ◌<◌, false, List, ℕ, ap, sym, subst, slice_index_or, length, arith}
use Rattle.std.specs.List.{AllByRecursion}
use Rattle.std.specs.Prelude.{codes}
use Rattle.std.specs.Str.{str_eq_ignore_ascii_case}
use Rattle.std.proofs.lemmas.Slice.Eq.{bytes_eq-Decides}
use Rattle.httparse.specs.Spans.{header_bytes}
use Rattle.tl_http.specs.Persistence.{NamesClose}
use Rattle.tl_http.proofs.FieldLemmas.{values_skip, no_span, same_test}
use Rattle.tl_http.proofs.persistence.+lacks_close.Goals as goal

pub returns-then-not-eq_ignore_ascii_case : goal.returns-then-not-eq_ignore_ascii_case
returns-then-not-eq_ignore_ascii_case t c =
    let name = codes "Connection" in
    let some : 0 < length c.args.headers.now = omega (arith, c.in-len1-up.len_at_least) in
    let same : c.eq_ignore_ascii_case.result ≡ str_eq_ignore_ascii_case c.of.result.now name =
    same_test c.eq_ignore_ascii_case.result _ c.eq_ignore_ascii_case.ensures.test.0 c.eq_ignore_ascii_case.ensures.test.1 (bytes_eq-Decides _ _) in
    let off : str_eq_ignore_ascii_case (header_bytes c.args.buf.now (slice_index_or c.args.headers.now 0 no_span)).0 name ≡ false =
    ap (λ (l : List ℕ). str_eq_ignore_ascii_case l name) (sym c.of.ensures) ∙ (sym same ∙ c.if-not-eq_ignore_ascii_case.true) in
    let skip = values_skip (header_bytes c.args.buf.now) name c.args.headers.now no_span some off in
    let below = c.lacks_close-below.ensures.unclosed in
    record {
      unclosed = (
        λ is. subst (λ (l : List (List ℕ)). AllByRecursion (λ value. ¬ (NamesClose value)) l) (sym skip) (below.0 is),
        λ all. below.1 (subst (λ (l : List (List ℕ)). AllByRecursion (λ value. ¬ (NamesClose value)) l) skip all),
      );
    }
