use Rattle.std.proofs.Common.{◌∙◌, sym, ap, arith, length, vec_items}
use Rattle.std.proofs.lemmas.Grind.{common_steps}
use Rattle.std.proofs.lemmas.List.{take_rest}
use Rattle.tl_command.proofs.CountedLines.{slices_found, slices_only, counted_none, counted_absent}
use Rattle.tl_command.proofs.audit_text.counted.Goals as goal

pub returns-in_default-number_after-clause-only : goal.returns-in_default-number_after-clause-only
returns-in_default-number_after-clause-only g c = λ entries others size e.
    counted_absent vec_items c.args.lines.now c.first-item.result c.args.word.now c.in-len1-up.len_at_least c.first-item.is
    (λ n fits is. c.in_default-number_after.ensures n fits (c.as_slice.ensures.value ∙ is)) entries others size e

pub returns-then-count-rest-clause-only : goal.returns-then-count-rest-clause-only
returns-then-count-rest-clause-only g c = λ entries others size e.
    let read = c.in-Some.ensures in
    counted_none vec_items c.args.lines.now c.first-item.result c.args.word.now c.in-Some.count c.in-len1-up.len_at_least c.first-item.is (sym c.as_slice.ensures.value ∙ read.1) read.0
    (omega (arith, c.if-count-rest.true, ap length (take_rest c.args.lines.now 1))) entries others size e

pub returns-clause-found : goal.returns-clause-found
returns-clause-found g c =
    slices_found vec_items c.args.lines.now c.first-item.result c.args.word.now c.in-Some.count _ (take_rest c.args.lines.now 1) c.in-len1-up.len_at_least c.first-item.is
    (sym c.as_slice.ensures.value ∙ c.in-Some.ensures.1) c.if-count-rest.false

pub returns-clause-only : goal.returns-clause-only
returns-clause-only g c = λ entries others size e.
    let read = c.in-Some.ensures in
    slices_only vec_items c.args.lines.now c.first-item.result c.args.word.now c.in-Some.count _ (take_rest c.args.lines.now 1) c.in-len1-up.len_at_least c.first-item.is
    (sym c.as_slice.ensures.value ∙ read.1) read.0 entries others size e

pub returns-clause-count : goal.returns-clause-count
returns-clause-count g c = grind (arith, common_steps)

pub returns-in_default-clause-only : goal.returns-in_default-clause-only
returns-in_default-clause-only g c = grind (arith, common_steps)

pub slice_bounds-result-end : goal.slice_bounds-result-end
slice_bounds-result-end g c = grind (arith, common_steps)
