use Rattle.std.proofs.Common.{ℕ, List, ◌++◌, sym, ap, ◌∙◌}
use Rattle.tl_offline.specs.ProofText.{version_line}
use Rattle.tl_offline.proofs.ParseLemmas.{bad_index}
use Rattle.tl_offline.proofs.parsing.cut_front.Goals as goal

pub returns-in_default-cut_index : goal.returns-in_default-cut_index
returns-in_default-cut_index c =
    let stripped = c.in-Some.ensures.cases in
    bad_index c.args.text.now c.in-Some.rest.now c.in_ok-extra.extra (stripped.1.1 ∙ ap (λ (t : List ℕ). version_line ++ t) (sym stripped.2)) c.in_ok-extra.ensures c.in_default-cut_index.ensures
