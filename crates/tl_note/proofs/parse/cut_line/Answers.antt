use Rattle.std.proofs.Common.{Some, None, arith}
use Rattle.std.proofs.lemmas.Grind.{common_steps}
use Rattle.tl_note.proofs.LineLemmas.{line_parts}
use Rattle.tl_note.proofs.parse.cut_line.Goals as goal

pub returns-in_default : goal.returns-in_default
returns-in_default c = λ first rest cuts. line_parts c.args.text.now None first rest c.in_default.ensures.cases cuts

pub returns-in_default-read : goal.returns-in_default-read
returns-in_default-read c = λ first rest cuts.
    let parts = line_parts c.args.text.now (Some (c.in-Some.words, c.in-Some.rest)) first rest c.in-Some.ensures.cases cuts in
    let none = rw c.in_default-read.is at c.read.ensures in
    none first cuts.lawful parts.0

pub returns : goal.returns
returns c = grind (arith, common_steps)
