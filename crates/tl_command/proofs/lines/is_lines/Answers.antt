use Rattle.tl_command.proofs.LineTexts.{last_tells, last_of_none, text_of_entries}
use Rattle.tl_command.proofs.lines.is_lines.Goals as goal

pub returns-in-Some : goal.returns-in-Some
returns-in-Some c = last_tells c.args.text.now c.in-Some.byte.now c.in-Some.ensures.value

pub returns-in-None : goal.returns-in-None
returns-in-None c = text_of_entries c.args.text.now (last_of_none c.args.text.now c.in-None.ensures.value)
