use Rattle.std.proofs.Common.{ap, arith, ◌∙◌, ◌≡◌}
use Rattle.tl_client.specs.Blame.{leaf_numbers}
use Rattle.tl_client.proofs.LeafReads.{numbers_more}
use Rattle.tl_client.proofs.leaves.numbers_of.Goals as goal

pub loop-i-preserved : goal.loop-i-preserved
loop-i-preserved g c =
    numbers_more c.args.first c.loop-i.i c.loop-i.numbers.items c.push.new.self.items c.stored_index.result c.loop-i.invariant c.stored_index.ensures.number c.in_ok-push.ensures.items

pub loop-i-init : goal.loop-i-init
loop-i-init g c = c.new-numbers.ensures.items

pub returns : goal.returns
returns g c =
    let all : c.loop-i.i ≡ c.args.count = omega (arith, c.loop-i-test.false, c.loop-i.auto.i-end) in
    c.loop-i.invariant ∙ ap (leaf_numbers c.args.first) all
