use Rattle.std.proofs.Common.{arith}
use Rattle.std.proofs.lemmas.Grind.{common_steps}
use Rattle.tl_ledger.proofs.Reopening.{part_failed, stands_whole}
use Rattle.tl_ledger.proofs.opened.open_head.Goals as goal

pub returns-in-Ok-restore-clause-honest : goal.returns-in-Ok-restore-clause-honest
returns-in-Ok-restore-clause-honest g c = λ own.
    stands_whole c.in-Ok.source (g.S.Shelf.kept c.args.shelf.now).held c.restore.new.found c.args.head.now c.in-Ok-restore.ledger (c.in-Ok.ensures.held own) c.restore.ensures.head c.in-Ok-restore.ensures.honest

pub returns-clause-refused : goal.returns-clause-refused
returns-clause-refused g c =
    part_failed _ _ _ c.in-Ok.source c.args.head.now c.restore.new.found c.in-Err-restore.fault c.in-Ok.ensures.held c.in-Err-restore.ensures.refused

pub returns-in-Err-clause-refused : goal.returns-in-Err-clause-refused
returns-in-Err-clause-refused g c = grind (arith, common_steps)
