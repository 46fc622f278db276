use Rattle.tl_text.specs.Text.{number_text, IsSize}
use Rattle.tl_command.proofs.LineFields.{number_utf8, after_word}
use Rattle.tl_command.proofs.lines.number_after.Goals as goal

pub returns-in_default : goal.returns-in_default
returns-in_default c = λ n small e. c.in_default.ensures (number_text n) (number_utf8 n small) e

pub returns : goal.returns
returns c = after_word IsSize number_text c.args.line.now c.args.word.now c.in-Some.text.now c.in-Some.ensures c.parse_size.result c.parse_size.ensures
