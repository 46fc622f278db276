use Rattle.std.proofs.Common.{sym}
use Rattle.tl_witness.proofs.NewlineLaws.{no_newline, no_text, cut_there}
use Rattle.tl_witness.proofs.chain_reading.cut_line.Goals as goal

pub returns-in_default : goal.returns-in_default
returns-in_default c = no_newline c.args.bytes.now (sym c.in_default.ensures)

pub returns-in_default-from_utf8 : goal.returns-in_default-from_utf8
returns-in_default-from_utf8 c = no_text c.args.bytes.now c.in-Some.end (sym c.in-Some.ensures) c.in_default-from_utf8.ensures.cases.0

pub returns : goal.returns
returns c = cut_there c.args.bytes.now c.in-Ok.words.now c.in-Some.end (sym c.in-Some.ensures) c.in-Ok.ensures.cases.0
