use Rattle.tl_feed.proofs.Faults.{fair_of_lines}
use Rattle.tl_feed.proofs.lines.line_of.Goals as goal

pub returns-in-Err-own_line-clause-fair : goal.returns-in-Err-own_line-clause-fair
returns-in-Err-own_line-clause-fair g c =
    fair_of_lines (g.S.ResourceSource.may_answer c.args.source.now) (g.S.ResourceSource.may_lack c.args.source.now) c.args.proposed.now.head.now c.in-Err-own_line.why c.in-Err-own_line.ensures.none
