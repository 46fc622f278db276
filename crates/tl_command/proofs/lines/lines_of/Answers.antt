use Rattle.tl_command.proofs.lines.lines_of.Goals as goal

pub returns-then-not-is_lines-clause-lines : goal.returns-then-not-is_lines-clause-lines
returns-then-not-is_lines-clause-lines g c = λ lines plain e. c.if-not-is_lines.ensures lines e
