use Rattle.std.proofs.Common.{◌≡◌, true, false, sym, subst, Some, None, arith}
use Rattle.std.proofs.lemmas.Grind.{common_steps}
use Rattle.tl_text.specs.Text.{HasNoControl}
use Rattle.tl_text.proofs.PieceLemmas.{line_parts}
use Rattle.tl_text.proofs.pieces.split_line.Goals as goal

pub returns-in_default : goal.returns-in_default
returns-in_default c = λ words rest plain e. line_parts c.args.text.now words rest None c.in_default.ensures.cases plain e

pub returns-then-not-is_plain : goal.returns-then-not-is_plain
returns-then-not-is_plain c = λ words rest plain e.
    let parts = line_parts c.args.text.now words rest (Some (c.in-Some.words, c.in-Some.rest)) c.in-Some.ensures.cases plain e in
    let t : false ≡ true = c.if-not-is_plain.ensures.1 (subst HasNoControl (sym parts.0) plain) in
    cc

pub returns : goal.returns
returns c = grind (arith, common_steps)
