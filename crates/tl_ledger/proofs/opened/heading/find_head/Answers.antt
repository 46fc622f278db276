use Rattle.std.proofs.Common.{rules, arith}
use Rattle.std.proofs.lemmas.Grind.{common_steps}
use Rattle.tl_ledger.proofs.Heading.{unstated}
use Rattle.tl_ledger.proofs.opened.heading.find_head.Goals as goal

pub returns-clause-refused : goal.returns-clause-refused
returns-clause-refused g c =
    unstated g.row.A.Denot g.S.Shelf.is_honest (g.S.Shelf.kept c.args.shelf.now).held (g.S.Shelf.may_fail c.args.shelf.now) _ c.in-Ok.note.now c.in-Err-stated.fault (λ honest. search (honest, rules)) c.in-Err-stated.ensures.refused

pub returns-in-Ok-stated-clause-held : goal.returns-in-Ok-stated-clause-held
returns-in-Ok-stated-clause-held g c = grind (arith, common_steps)

pub returns-in_default-clause-refused : goal.returns-in_default-clause-refused
returns-in_default-clause-refused g c = grind (arith, common_steps)
