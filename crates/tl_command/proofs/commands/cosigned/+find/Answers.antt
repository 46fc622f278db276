use Rattle.std.proofs.lemmas.List.{take_rest}
use Rattle.tl_command.proofs.CosignedRuns.{find_more, find_nothing, find_time}
use Rattle.tl_command.proofs.commands.cosigned.+find.Goals as goal

pub returns-in_default : goal.returns-in_default
returns-in_default g t c = find_nothing c.args.text.now _ c.args.lines.now c.args.from c.in_default.len_below

pub returns-then-not-is_of : goal.returns-then-not-is_of
returns-then-not-is_of g t c =
    find_more c.args.text.now _ c.args.lines.now c.first-item.result _ c.args.from (take_rest c.args.lines.now 1) c.in-len1-up.len_at_least c.first-item.is
    c.if-not-is_of.ensures.1 c.find.result c.find.ensures

pub returns-in-Some : goal.returns-in-Some
returns-in-Some g t c =
    find_time c.args.text.now _ c.args.lines.now c.first-item.result _ c.args.from (take_rest c.args.lines.now 1) c.in-len1-up.len_at_least c.first-item.is
    c.in-Some.time (rw (c.in-Some.is) at c.in_ok-time.ensures.checked)
