use Rattle.std.proofs.Common.{◌≡◌, ◌∙◌, [], ap, arith, replicate}
use Rattle.tl_lines.proofs.DealtLemmas.{one_more_empty}
use Rattle.tl_lines.proofs.dealing.empty_lists.Goals as goal

pub loop-lane-preserved : goal.loop-lane-preserved
loop-lane-preserved g c =
    one_more_empty c.loop-lane.lists.items c.push.new.self.items c.new.result c.loop-lane._lane c.loop-lane.invariant c.in_ok-push.ensures.items c.new.ensures.items

pub returns-clause-lists : goal.returns-clause-lists
returns-clause-lists g c =
    let all : c.loop-lane._lane ≡ c.args.lanes = omega (arith, c.loop-lane-test.false, c.loop-lane.auto._lane-end) in
    c.loop-lane.invariant ∙ ap (λ n. replicate n []) all
