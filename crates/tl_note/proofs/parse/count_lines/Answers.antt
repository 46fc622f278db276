use Rattle.std.proofs.Common.{◌≡◌, ◌<◌, length, arith}
use Rattle.std.proofs.lemmas.Grind.{common_steps}
use Rattle.std.proofs.lemmas.Bool.Decides.{nat_tests}
use Rattle.tl_note.proofs.LineLemmas.{too_many, no_first, no_lines, counts_none, counts_more, counts_all}
use Rattle.tl_note.proofs.parse.count_lines.Goals as goal

pub loop-left-init : goal.loop-left-init
loop-left-init c = counts_none c.args.text.now c.utf8.text

pub returns-then-count-eq-MOST_LINES : goal.returns-then-count-eq-MOST_LINES
returns-then-count-eq-MOST_LINES c = λ lines are.
    let has = c.loop-left.invariant in
    let full : length has.done ≡ 100 = omega (arith, has.counted) in
    let some : 0 < length c.loop-left.left.now = grind (arith, nat_tests) in
    too_many c.args.text.now c.loop-left.left.now has.done lines has.read full some are

pub returns-in_default : goal.returns-in_default
returns-in_default c = λ lines are.
    let has = c.loop-left.invariant in
    let none = rw c.in_default.is at c.cut_line.ensures in
    let some : 0 < length c.loop-left.left.now = grind (arith, nat_tests) in
    no_first c.args.text.now c.loop-left.left.now has.done lines has.read none some are

pub loop-left-preserved : goal.loop-left-preserved
loop-left-preserved c =
    let cut = c.in-Some.ensures in
    counts_more c.args.text.now c.loop-left.left.now c.in-Some.rest.now c.loop-left.count c.in-Some.field-0-0 c.loop-left.invariant (omega arith) cut.1 cut.0

pub returns-then-count-eq0 : goal.returns-then-count-eq0
returns-then-count-eq0 c = λ lines are.
    let has = c.loop-left.invariant in
    let none : length has.done ≡ 0 = omega (arith, has.counted) in
    let empty : length c.loop-left.left.now ≡ 0 = grind (arith, nat_tests) in
    no_lines c.args.text.now c.loop-left.left.now has.done lines has.read none empty are

pub returns : goal.returns
returns c =
    let empty : length c.loop-left.left.now ≡ 0 = grind (arith, nat_tests) in
    counts_all c.args.text.now c.loop-left.left.now c.loop-left.count c.loop-left.invariant empty (omega arith)

pub loop-left-smaller : goal.loop-left-smaller
loop-left-smaller c = grind (arith, common_steps)
