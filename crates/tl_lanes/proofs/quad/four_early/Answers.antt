use Rattle.std.proofs.Common.{◌≡◌, ◌+◌, ap, ◌∙◌, arith}
use Rattle.sha2.specs.Sha256.{rounds, schedule}
use Rattle.tl_lanes.proofs.quad.four_early.Goals as goal

pub returns : goal.returns
returns c = λ j lt b h ring held.
    let t = c.args.t in
    let after = rounds h (schedule b 48) in
    let second : t + 1 + 1 ≡ t + 2 = omega arith in
    let third : t + 2 + 1 ≡ t + 3 = omega arith in
    let fourth : t + 3 + 1 ≡ t + 4 = omega arith in
    let one = c.early_round-first.ensures j lt b h ring held in
    let two = c.early_round-second.ensures j lt b h ring one ∙ ap after second in
    let three = c.early_round-third.ensures j lt b h ring two ∙ ap after third in
    c.early_round.ensures j lt b h ring three ∙ ap after fourth
