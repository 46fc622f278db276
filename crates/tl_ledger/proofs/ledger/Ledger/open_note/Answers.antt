use Rattle.std.proofs.Common.{arith}
use Rattle.std.proofs.lemmas.Grind.{common_steps}
use Rattle.tl_ledger.proofs.Heading.{unstated_note}
use Rattle.tl_ledger.proofs.Reopening.{opens_some}
use Rattle.tl_ledger.proofs.ledger.Ledger.open_note.Goals as goal

pub returns-in-Err-clause-refused : goal.returns-in-Err-clause-refused
returns-in-Err-clause-refused g c =
    unstated_note g.row.A.Denot _ _ _ c.args.note.now _ c.new.result c.in-Err.fault c.in-Err.ensures.refused

pub returns-in-Ok-open_head-clause-opens : goal.returns-in-Ok-open_head-clause-opens
returns-in-Ok-open_head-clause-opens g c =
    opens_some _ c.open_head.new.found c.in-Ok.head c.in-Ok-open_head.ledger c.open_head.ensures.head (c.args.note.now, c.in-Ok.ensures.states) c.in-Ok-open_head.ensures.restores

pub returns-in-Err-open_head-clause-honest : goal.returns-in-Err-open_head-clause-honest
returns-in-Err-open_head-clause-honest g c = grind (arith, common_steps)
