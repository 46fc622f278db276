use Rattle.std.proofs.Common.{sym}
use Rattle.tl_bucket.proofs.CommitTexts.{no_control, no_newline, cut_there}
use Rattle.tl_bucket.proofs.commit.cut_line.Goals as goal

pub returns-in_default : goal.returns-in_default
returns-in_default c = no_control c.args.bytes.now (sym c.in_default.ensures)

pub returns-then-bytes-end-ne10 : goal.returns-then-bytes-end-ne10
returns-then-bytes-end-ne10 c = no_newline c.args.bytes.now c.in-Some.end (sym c.in-Some.ensures) c.if-bytes-end-ne10.true

pub returns : goal.returns
returns c = cut_there c.args.bytes.now c.in-Some.end (sym c.in-Some.ensures) c.if-bytes-end-ne10.false
