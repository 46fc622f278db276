use Rattle.std.proofs.Common.{List, ℕ, subst}
use Rattle.tl_command.specs.Inner.Growing.{IsGrowing}
use Rattle.tl_command.proofs.WholeLines.{none_taken}
use Rattle.tl_command.proofs.growing.Growing.take_whole.Goals as goal

pub returns-clause-grows : goal.returns-clause-grows
returns-clause-grows g c = λ input was.
    let before = subst (λ (t : List ℕ). IsGrowing c.take_tile.new.self t) (none_taken input c.args.piece.now c.in_ok-taken.taken c.if-taken-gt0.false) (c.in_ok-taken.ensures.grows input was) in
    c.take_four.ensures.grows input before
