use Rattle.std.proofs.Common.{vec_items}
use Rattle.tl_command.proofs.SplitProofs.{consistency-none, growth-some}
use Rattle.tl_command.proofs.commands.proving.consistency.consistency_over.Goals as goal

pub returns-then-old-gt0 : goal.returns-then-old-gt0
returns-then-old-gt0 g c = growth-some c.subproof_over.result c.args.lines.now c.args.old c.if-old-gt0.true c.subproof_over.ensures

pub returns : goal.returns
returns g c =
    consistency-none c.args.lines.now c.args.old c.count.result c.empty_hash.result c.in_ok-root.field-0 (vec_items c.new.result) c.if-old-gt0.false c.count.ensures.count
    c.empty_hash.ensures c.in_ok-root.ensures c.new.ensures.items
