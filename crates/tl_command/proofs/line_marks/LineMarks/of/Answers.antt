use Rattle.std.proofs.Common.{◌≡◌, ◌+◌, ◌*◌, ◌∙◌, ap, arith, length, Some, ℕ}
use Rattle.tl_command.specs.Lines.{entries_of}
use Rattle.tl_command.proofs.Bundles.{none_too_long}
use Rattle.tl_command.proofs.Counting.{all_counted, long_behind}
use Rattle.tl_command.proofs.LinesLemmas.{length-entries_of}
use Rattle.tl_command.proofs.WholeLines.{lines_within}
use Rattle.tl_command.proofs.line_marks.LineMarks.of.Goals as goal

pub overflow_mul-marked : goal.overflow_mul-marked
overflow_mul-marked g c =
    let found = c.in_ok-ends.ensures.lines in
    omega (arith, lines_within c.args.text.now found.0 c.in_ok-ends.rest.now found.1, found.2, c.in_ok-ends.ends.ok.0, c.len.ensures, c.requires)

pub overflow_add-result : goal.overflow_add-result
overflow_add-result g c =
    let found = c.in_ok-ends.ensures.lines in
    omega (
      arith,
      lines_within c.args.text.now found.0 c.in_ok-ends.rest.now found.1,
      found.2,
      c.in_ok-ends.ends.ok.0,
      c.len.ensures,
      c.requires,
      c.in-Ok.ensures.count,
      length-entries_of c.in_ok-ends.rest.now,
    )

pub overflow_add-result-in-Err : goal.overflow_add-result-in-Err
overflow_add-result-in-Err g c =
    let found = c.in_ok-ends.ensures.lines in
    omega (arith, lines_within c.args.text.now found.0 c.in_ok-ends.rest.now found.1, found.2, c.in_ok-ends.ends.ok.0, c.len.ensures, c.requires, c.in-Err.ensures.within)

pub invariant_of-result : goal.invariant_of-result
invariant_of-result g c =
    let found = c.in_ok-ends.ensures.lines in
    let all = all_counted c.args.text.now c.in_ok-ends.rest.now found.0 c.in-Ok.count found.1 c.in-Ok.ensures.count c.in-Ok.ensures.short in
    record {
      number = omega (arith, all.0, found.2, c.in_ok-ends.ends.ok.0, c.len.ensures);
      few = c.requires;
      short = none_too_long (entries_of c.args.text.now) all.1;
      marks = c.in_ok-ends.ensures.marks;
    }

pub returns-in-Ok-clause-short : goal.returns-in-Ok-clause-short
returns-in-Ok-clause-short g c =
    let found = c.in_ok-ends.ensures.lines in
    (all_counted c.args.text.now c.in_ok-ends.rest.now found.0 c.in-Ok.count found.1 c.in-Ok.ensures.count c.in-Ok.ensures.short).1

pub returns-clause-fault : goal.returns-clause-fault
returns-clause-fault g c =
    let found = c.in_ok-ends.ensures.lines in
    let sum : length found.0 + c.in-Err.place ≡ c.len.result * 256 + c.in-Err.place = omega (arith, found.2, c.in_ok-ends.ends.ok.0, c.len.ensures) in
    long_behind c.args.text.now c.in_ok-ends.rest.now found.0 c.in-Err.place found.1 c.in-Err.ensures.long ∙ ap (λ (n : ℕ). Some n) sum
