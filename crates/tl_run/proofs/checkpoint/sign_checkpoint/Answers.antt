use Rattle.std.proofs.Common.{sym, subst, arith}
use Rattle.std.proofs.lemmas.Grind.{common_steps}
use Rattle.tl_text.specs.Text.{IsOneLine}
use Rattle.tl_run.proofs.Names.{name_is_one_line}
use Rattle.tl_run.proofs.checkpoint.sign_checkpoint.Goals as goal

pub checkpoint_of-requires-clause-origin : goal.checkpoint_of-requires-clause-origin
checkpoint_of-requires-clause-origin g c = subst IsOneLine (sym c.origin.ensures) (name_is_one_line _ c.requires.origin)

pub returns-clause-note : goal.returns-clause-note
returns-clause-note g c = grind (arith, common_steps)
