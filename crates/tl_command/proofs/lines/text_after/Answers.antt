use Rattle.std.proofs.Common.{None, Some, sym, subst, ap, ◌++◌, ◌∙◌, List, ℕ}
use Rattle.std.specs.Prelude.{IsUtf8}
use Rattle.std.proofs.lemmas.List.{append_cancel_left}
use Rattle.tl_command.proofs.LineFields.{stripped}
use Rattle.tl_command.proofs.lines.text_after.Goals as goal

pub returns-in_default : goal.returns-in_default
returns-in_default c = λ text utf8 e. stripped c.args.line.now c.args.word.now None c.in_default.ensures.cases text e

pub returns-in-Ok : goal.returns-in-Ok
returns-in-Ok c =
    stripped c.args.line.now c.args.word.now (Some c.in-Some.rest) c.in-Some.ensures.cases
    ∙ ap (λ (t : List ℕ). c.args.word.now ++ t) (sym c.in-Ok.ensures.cases.0)

pub returns-in-Err : goal.returns-in-Err
returns-in-Err c = λ text utf8 e.
    let whole = stripped c.args.line.now c.args.word.now (Some c.in-Some.rest) c.in-Some.ensures.cases in
    let same = append_cancel_left c.args.word.now text c.in-Some.rest.now (sym e ∙ whole) in
    c.in-Err.ensures.cases.0 (subst IsUtf8 same utf8)
