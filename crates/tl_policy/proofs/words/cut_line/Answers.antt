use Rattle.std.proofs.Common.{Some, None, arith}
use Rattle.std.proofs.lemmas.Str.Pattern.{split_once_first}
use Rattle.tl_policy.specs.Inner.Cutting.{is_newline}
use Rattle.tl_policy.proofs.WordLaws.{cut_first, not_cut}
use Rattle.tl_policy.proofs.words.cut_line.Goals as goal

pub returns-in-Some-clause-cut : goal.returns-in-Some-clause-cut
returns-in-Some-clause-cut c =
    let at = split_once_first 10 c.args.text.now (Some c.in-Some.parts) c.in-Some.ensures.cases (omega arith) in
    cut_first is_newline c.args.text.now c.in-Some.parts.0.now c.in-Some.parts.1.now at.0 at.1 at.2

pub returns-in-None-clause-cut : goal.returns-in-None-clause-cut
returns-in-None-clause-cut c =
    let at = split_once_first 10 c.args.text.now None c.in-None.ensures.cases (omega arith) in
    not_cut is_newline c.args.text.now (omega (arith, at))
