use Rattle.std.proofs.Common.{arith}
use Rattle.tl_lanes.proofs.Ring.{as_many}
use Rattle.tl_lanes.proofs.quad.four_late.Goals as goal

pub returns : goal.returns
returns c = λ j lt b h held.
    let one = c.late_round-first.ensures j lt b h held in
    let two = c.late_round-second.ensures j lt b h one in
    let three = c.late_round-third.ensures j lt b h (as_many b h _ _ _ _ (omega arith) two) in
    let four = c.late_round.ensures j lt b h (as_many b h _ _ _ _ (omega arith) three) in
    as_many b h _ _ _ _ (omega arith) four
