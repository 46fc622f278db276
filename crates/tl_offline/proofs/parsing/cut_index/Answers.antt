use Rattle.std.proofs.Common.{ℕ, List, ◌++◌, sym, ap, ◌∙◌}
use Rattle.std.specs.Prelude.{codes}
use Rattle.tl_offline.proofs.CutLemmas.{no_first_line, no_index, no_number}
use Rattle.tl_offline.proofs.parsing.cut_index.Goals as goal

pub returns-in_default : goal.returns-in_default
returns-in_default c = no_first_line c.args.text.now c.in_default.ensures

pub returns-in_default-strip_prefix : goal.returns-in_default-strip_prefix
returns-in_default-strip_prefix c = no_index c.args.text.now c.in-Some.words.now c.in-Some.rest.now c.in-Some.ensures.0 c.in-Some.ensures.1 c.in_default-strip_prefix.ensures.cases

pub returns-in_default-parse_size : goal.returns-in_default-parse_size
returns-in_default-parse_size c =
    let stripped = c.in-Some-strip_prefix.ensures.cases in
    no_number c.args.text.now c.in-Some.words.now c.in-Some.rest.now c.in-Some-strip_prefix.digits.now c.in-Some.ensures.0 c.in-Some.ensures.1
    (stripped.1.1 ∙ ap (λ (d : List ℕ). codes "index " ++ d) (sym stripped.2)) c.in_default-parse_size.ensures
