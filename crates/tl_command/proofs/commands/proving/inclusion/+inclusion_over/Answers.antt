use Rattle.std.proofs.Common.{◌∙◌, arith, sym}
use Rattle.tl_command.specs.ProofShown.{inclusion_shown}
use Rattle.tl_command.proofs.SplitProofs.{inclusion-one, path-left, path-right}
use Rattle.tl_command.proofs.commands.proving.inclusion.+inclusion_over.Goals as goal

pub returns-then-size-eq1 : goal.returns-then-size-eq1
returns-then-size-eq1 g t c =
    let one = sym c.count-size.ensures.count ∙ c.if-size-eq1.true in
    inclusion-one c.args.lines.now c.args.index c.in_ok-leaf.leaf (inclusion_shown c.only_line.result) one (omega (arith, c.requires, one)) c.in_ok-leaf.ensures c.only_line.ensures

pub returns-then-index-k : goal.returns-then-index-k
returns-then-index-k g t c =
    path-left c.led_past.result c.args.lines.now c.split-front.result.0 c.split-front.result.1 c.split_point-k.result c.args.index c.count-size.result
    c.in_ok-other.other c.node_hash-root.result (inclusion_shown c.in_ok-part.part) c.split_point-k.ensures c.if-index-k.true c.count-size.ensures.count
    c.split-front.ensures.first c.split-front.ensures.others c.in_ok-part.ensures c.in_ok-other.ensures c.node_hash-root.ensures c.led_past.ensures

pub returns : goal.returns
returns g t c =
    path-right c.led_past-2.result c.args.lines.now c.split-front.result.0 c.split-front.result.1 c.split_point-k.result c.args.index c.count-size.result
    c.in_ok-other-2.other c.node_hash-root-2.result (inclusion_shown c.in_ok-part-2.part) c.split_point-k.ensures c.if-index-k.false c.count-size.ensures.count
    c.split-front.ensures.first c.split-front.ensures.others c.in_ok-part-2.ensures c.in_ok-other-2.ensures c.node_hash-root-2.ensures c.led_past-2.ensures
