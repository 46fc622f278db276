use Rattle.std.proofs.Common.{◌≡◌, ℕ, List, ◌++◌, true, false, refl, sym, ap, subst, ◌∙◌, Some}
use Rattle.std.specs.Prelude.{codes}
use Rattle.tl_text.specs.Base64.{IsBase64}
use Rattle.tl_offline.proofs.CutLemmas.{extra_begins, no_base64, no_extra_line}
use Rattle.tl_offline.proofs.parsing.cut_extra.Goals as goal

pub returns-in_default-split_line : goal.returns-in_default-split_line
returns-in_default-split_line c =
    let stripped = c.in-Some.ensures.cases in
    no_extra_line c.args.text.now c.in-Some.line.now (stripped.1.1 ∙ ap (λ (t : List ℕ). codes "extra " ++ t) (sym stripped.2)) c.in_default-split_line.ensures

pub returns-then-not-is_base64 : goal.returns-then-not-is_base64
returns-then-not-is_base64 c =
    let stripped = c.in-Some.ensures.cases in
    let cut = c.in-Some-split_line.ensures in
    no_base64 c.args.text.now c.in-Some.line.now c.in-Some-split_line.words.now c.in-Some-split_line.rest.now
    (stripped.1.1 ∙ ap (λ (t : List ℕ). codes "extra " ++ t) (sym stripped.2)) cut.0 cut.1
    (λ is. let t : false ≡ true = c.if-not-is_base64.ensures.1 (subst IsBase64 (sym c.as_bytes.ensures.value) is) in absurd cc)

pub returns : goal.returns
returns c =
    let stripped = c.in-Some.ensures.cases in
    let cut = c.in-Some-split_line.ensures in
    let is = subst IsBase64 c.as_bytes.ensures.value (c.if-not-is_base64.ensures.0 refl) in
    record {
      bytes = Some is.0;
      spelled = is.1;
      begins = extra_begins c.args.text.now c.in-Some.line.now c.in-Some-split_line.words.now c.in-Some-split_line.rest.now is.0
          (stripped.1.1 ∙ ap (λ (t : List ℕ). codes "extra " ++ t) (sym stripped.2)) cut.1 is.1.spelled;
      whole = tt;
      place = refl;
    }
