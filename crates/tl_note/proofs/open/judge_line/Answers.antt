use Rattle.std.proofs.Common.{◌≡◌, Some, sym, ap, ◌∙◌, arith}
use Rattle.std.proofs.lemmas.Grind.{common_steps}
use Rattle.std.specs.Prelude.{slice_get}
use Rattle.std.proofs.lemmas.Option.{slice_get-get_or}
use Rattle.tl_note.specs.Note.{Signature}
use Rattle.tl_note.proofs.OpenLemmas.{judges_fault}
use Rattle.tl_note.proofs.open.judge_line.Goals as goal

pub returns-then-is_repeated : goal.returns-then-is_repeated
returns-then-is_repeated g c =
    let line = c.index-lines-place.result in
    let at : slice_get c.args.lines.now c.args.place ≡ Some line = slice_get-get_or c.args.lines.now c.args.place line c.requires ∙ ap (λ (s : Signature). Some s) (sym c.index-lines-place.is) in
    (line, at, (sym c.if-not-is_known.ensures, sym c.if-is_repeated.ensures))

pub returns-in_err-verify_line : goal.returns-in_err-verify_line
returns-in_err-verify_line g c =
    let line = c.index-lines-place.result in
    let at : slice_get c.args.lines.now c.args.place ≡ Some line = slice_get-get_or c.args.lines.now c.args.place line c.requires ∙ ap (λ (s : Signature). Some s) (sym c.index-lines-place.is) in
    (line, at, judges_fault _ c.args.text.now c.args.lines.now (c.args.place, line) c.in_err-verify_line.field-0.0 c.from_residual.result (sym c.if-not-is_known.ensures) (sym c.if-is_repeated.ensures) c.in_err-verify_line.ensures c.from_residual.ensures.1)

pub returns : goal.returns
returns g c =
    let line = c.index-lines-place.result in
    let at : slice_get c.args.lines.now c.args.place ≡ Some line = slice_get-get_or c.args.lines.now c.args.place line c.requires ∙ ap (λ (s : Signature). Some s) (sym c.index-lines-place.is) in
    (line, at, (sym c.if-not-is_known.ensures, sym c.if-is_repeated.ensures, c.in_ok-verify_line.ensures))

pub slice_bounds-is_repeated-end : goal.slice_bounds-is_repeated-end
slice_bounds-is_repeated-end g c = grind (arith, common_steps)
