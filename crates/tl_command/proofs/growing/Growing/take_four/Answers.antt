use Rattle.std.proofs.Common.{◌≡◌, ◌∷◌, [], length, vec_items, sym, arith}
use Rattle.std.proofs.lemmas.Grind.{common_steps}
use Rattle.std.proofs.lemmas.Bool.Decides.{nat_tests}
use Rattle.tl_command.proofs.GrowingLemmas.{empty_list}
use Rattle.tl_command.proofs.WholeLines.{grown_lines, no_place}
use Rattle.tl_command.proofs.growing.Growing.take_four.Goals as goal

pub returns-clause-grows : goal.returns-clause-grows
returns-clause-grows g c = λ input was.
    let line = c.args.self.now.line in
    let four = c.in-Some.four in
    let ok = line.ok.0 in
    let none : length (vec_items line) ≡ 0 = grind (arith, nat_tests, ok, c.is_empty.ensures, c.if-not-is_empty.false) in
    let begun : vec_items line ≡ [] = empty_list (vec_items line) none in
    let place = no_place c.args.self.now.too_long (sym c.if-is_some.ensures) in
    grown_lines c.args.self.now _ input c.args.piece.now (four.first.now ∷ four.second.now ∷ four.third.now ∷ four.fourth.now ∷ []) four.rest.now
    was c.in-Some.ensures place begun place begun c.in_ok-push_four.ensures.entries

pub overflow_sub-result : goal.overflow_sub-result
overflow_sub-result g c = grind (arith, common_steps)

pub push_four-requires : goal.push_four-requires
push_four-requires g c = grind (arith, common_steps)

pub returns-clause-size : goal.returns-clause-size
returns-clause-size g c = grind (arith, common_steps)

pub returns-in_default-clause-grows : goal.returns-in_default-clause-grows
returns-in_default-clause-grows g c = grind (arith, common_steps)

pub returns-then-not-is_empty-clause-grows : goal.returns-then-not-is_empty-clause-grows
returns-then-not-is_empty-clause-grows g c = grind (arith, common_steps)
