use Rattle.std.proofs.Common.{[], ◌∷◌}
use Rattle.tl_command.proofs.WholeLines.{begins_more}
use Rattle.tl_command.proofs.whole_lines.cut_four.Goals as goal

pub returns : goal.returns
returns c =
    let first = c.in_ok-first.first.now in
    let second = c.in_ok-second.second.now in
    let third = c.in_ok-third.third.now in
    let two = begins_more _ _ _ (first ∷ []) (second ∷ []) c.in_ok-first.ensures.line c.in_ok-second.ensures.line in
    let three = begins_more _ _ _ (first ∷ second ∷ []) (third ∷ []) two c.in_ok-third.ensures.line in
    begins_more _ _ _ (first ∷ second ∷ third ∷ []) (c.in_ok-fourth.fourth.now ∷ []) three c.in_ok-fourth.ensures.line
