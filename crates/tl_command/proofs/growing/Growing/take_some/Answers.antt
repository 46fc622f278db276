use Rattle.std.proofs.Common.{◌++◌, List, ℕ, length, subst, sym, arith}
use Rattle.std.proofs.lemmas.List.{take_all}
use Rattle.tl_command.specs.Inner.Growing.{IsGrowing}
use Rattle.tl_command.proofs.GrowingLemmas.{none_found}
use Rattle.tl_command.proofs.WholeLines.{line_front, none_taken, plain_before}
use Rattle.tl_command.proofs.growing.Growing.take_some.Goals as goal

pub extend-requires : goal.extend-requires
extend-requires g c = none_found c.args.piece.now c.in_default.ensures

pub returns-in_default-clause-grows : goal.returns-in_default-clause-grows
returns-in_default-clause-grows g c = λ input was.
    let piece = c.args.piece.now in
    let before = subst (λ (t : List ℕ). IsGrowing c.take_whole.new.self t) (none_taken input piece c.in_ok-taken.taken c.if-taken-gt0.false) (c.in_ok-taken.ensures.grows input was) in
    subst (λ (t : List ℕ). IsGrowing c.extend.new.self (input ++ t)) (sym (take_all (length piece) piece (omega arith))) (c.in_ok-extend.ensures.grows input before)

pub extend-requires-2 : goal.extend-requires-2
extend-requires-2 g c =
    let found = c.in-Some.ensures in
    plain_before c.args.piece.now c.in-Some.end (omega (arith, found.0.high)) found.0.before

pub returns-clause-grows : goal.returns-clause-grows
returns-clause-grows g c = λ input was.
    let piece = c.args.piece.now in
    let found = c.in-Some.ensures in
    let before = subst (λ (t : List ℕ). IsGrowing c.take_whole.new.self t) (none_taken input piece c.in_ok-taken.taken c.if-taken-gt0.false) (c.in_ok-taken.ensures.grows input was) in
    subst (λ (t : List ℕ). IsGrowing c.end_line.new.self t) (line_front input piece c.in-Some.end found.0.high found.1)
    (c.in_ok-end_line.ensures.grows _ (c.in_ok-extend-2.ensures.grows input before))
