use Rattle.std.proofs.Common.{arith, refl}
use Rattle.tl_command.specs.ProofShown.{consistency_shown}
use Rattle.tl_command.proofs.SplitProofs.{growth-all, growth-in_left, growth-in_right}
use Rattle.tl_command.proofs.commands.proving.consistency.+subproof_over.Goals as goal

pub returns-then-old-size : goal.returns-then-old-size
returns-then-old-size g t c =
    growth-all c.whole_tree.result c.args.lines.now c.args.old c.count-size.result c.args.is_known c.in_ok-root.root c.if-old-size.true c.count-size.ensures.count
    c.in_ok-root.ensures c.whole_tree.ensures

pub returns-then-old-k : goal.returns-then-old-k
returns-then-old-k g t c =
    growth-in_left c.led_past.result c.args.lines.now c.split-front.result.0 c.split-front.result.1 c.split_point-k.result c.args.old c.count-size.result c.args.is_known
    c.in_ok-other.other c.in_ok-part.part.old_root c.node_hash.result (consistency_shown c.in_ok-part.part) c.split_point-k.ensures c.if-old-k.true c.count-size.ensures.count
    c.split-front.ensures.first c.split-front.ensures.others c.in_ok-part.ensures c.in_ok-other.ensures refl c.node_hash.ensures c.led_past.ensures

pub returns : goal.returns
returns g t c =
    growth-in_right c.led_past-2.result c.args.lines.now c.split-front.result.0 c.split-front.result.1 c.split_point-k.result c.args.old c.count-size.result c.args.is_known
    c.in_ok-other-2.other c.node_hash-2.result c.node_hash-3.result (consistency_shown c.in_ok-part-2.part) c.split_point-k.ensures c.if-old-k.false
    (omega (arith, c.requires.within, c.count-size.ensures.count, c.if-old-size.false)) c.count-size.ensures.count
    c.split-front.ensures.first c.split-front.ensures.others c.in_ok-part-2.ensures c.in_ok-other-2.ensures c.node_hash-2.ensures c.node_hash-3.ensures c.led_past-2.ensures
