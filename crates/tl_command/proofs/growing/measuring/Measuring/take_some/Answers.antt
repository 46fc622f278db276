use Rattle.std.proofs.Common.{◌+◌, ◌++◌, List, ℕ, length, take, subst, sym, arith}
use Rattle.std.proofs.lemmas.List.{length-take-le, take_all}
use Rattle.tl_command.specs.Inner.Measuring.{IsMeasuring}
use Rattle.tl_command.proofs.GrowingLemmas.{none_found}
use Rattle.tl_command.proofs.MeasuringLemmas.{begun_more}
use Rattle.tl_command.proofs.WholeLines.{line_front, plain_before}
use Rattle.tl_command.proofs.growing.measuring.Measuring.take_some.Goals as goal

pub returns-in_default-clause-measures : goal.returns-in_default-clause-measures
returns-in_default-clause-measures g c = λ input was.
    let piece = c.args.piece.now in
    subst (λ (t : List ℕ). IsMeasuring (record c.args.self.now { begun = c.args.self.now.begun + length piece }) (input ++ t)) (sym (take_all (length piece) piece (omega arith))) (begun_more c.args.self.now input piece was (none_found piece c.in_default.ensures))

pub returns-clause-measures : goal.returns-clause-measures
returns-clause-measures g c = λ input was.
    let piece = c.args.piece.now in
    let end = c.in-Some.end in
    let found = c.in-Some.ensures in
    let many = length-take-le end piece (omega (arith, found.0.high)) in
    let begun : IsMeasuring (record c.args.self.now { begun = c.args.self.now.begun + end }) (input ++ take end piece) =
    subst (λ (n : ℕ). IsMeasuring (record c.args.self.now { begun = c.args.self.now.begun + n }) (input ++ take end piece)) many (begun_more c.args.self.now input (take end piece) was (plain_before piece end (omega (arith, found.0.high)) found.0.before)) in
    subst (λ (t : List ℕ). IsMeasuring c.end_line.new.self t) (line_front input piece end found.0.high found.1) (c.in_ok-end_line.ensures.measures (input ++ take end piece) begun)
