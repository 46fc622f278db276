use Rattle.std.proofs.Common.{◌++◌, List, ℕ, length, subst, sym, arith}
use Rattle.std.proofs.lemmas.Grind.{common_steps}
use Rattle.std.proofs.lemmas.List.{take_all}
use Rattle.tl_command.specs.Inner.Growing.{IsGrowing}
use Rattle.tl_command.proofs.growing.Growing.take_share.Goals as goal

pub returns-then-end-eq0-clause-grows : goal.returns-then-end-eq0-clause-grows
returns-then-end-eq0-clause-grows g c = λ input was.
    let block = c.args.block.now in
    subst (λ (t : List ℕ). IsGrowing c.take-then-end-eq0.new.self (input ++ t)) (sym (take_all (length block) block (omega arith))) (c.in_ok-take-2.ensures.grows input was)

pub returns-clause-grows : goal.returns-clause-grows
returns-clause-grows g c = λ input was. c.in_ok-absorb.ensures.grows input was c.in_ok-grown.ensures.grows

pub absorb-requires-clause-room : goal.absorb-requires-clause-room
absorb-requires-clause-room g c = grind (arith, common_steps)

pub returns-clause-size : goal.returns-clause-size
returns-clause-size g c = grind (arith, common_steps)

pub returns-clause-some : goal.returns-clause-some
returns-clause-some g c = grind (arith, common_steps)

pub returns-then-start-gt0-clause-size : goal.returns-then-start-gt0-clause-size
returns-then-start-gt0-clause-size g c = grind (arith, common_steps)

pub returns-then-start-gt0-clause-some : goal.returns-then-start-gt0-clause-some
returns-then-start-gt0-clause-some g c = grind (arith, common_steps)
