use Rattle.tl_logs.proofs.Newlines.{line_cut}
use Rattle.tl_logs.proofs.reading.cut_line.Goals as goal

pub returns : goal.returns
returns c = line_cut c.args.bytes.now c.cut_at.result.0.now c.cut_at.result.1.now c.cut_at.ensures.before c.cut_at.ensures.behind
