use Rattle.std.proofs.Common.{subst, arith}
use Rattle.std.proofs.lemmas.Grind.{common_steps}
use Rattle.tl_ledger.specs.Opening.{IsOfSigned}
use Rattle.tl_ledger.proofs.Reopening.{opens_some}
use Rattle.tl_ledger.proofs.ledger.Ledger.open.Goals as goal

pub returns-in-Ok-clause-opens : goal.returns-in-Ok-clause-opens
returns-in-Ok-clause-opens g c =
    opens_some _ c.open_head.new.found c.in-Ok-Some.head c.in-Ok.ledger c.open_head.ensures.head (subst (IsOfSigned _) c.in-Ok-Some.field-0-is c.in-Ok-Some.ensures.signed) c.in-Ok.ensures.restores

pub returns-in-Ok-None-clause-honest : goal.returns-in-Ok-None-clause-honest
returns-in-Ok-None-clause-honest g c = grind (arith, common_steps)

pub returns-in-Ok-None-clause-opens : goal.returns-in-Ok-None-clause-opens
returns-in-Ok-None-clause-opens g c = grind (arith, common_steps)

pub returns-in-Ok-None-clause-read : goal.returns-in-Ok-None-clause-read
returns-in-Ok-None-clause-read g c = grind (arith, common_steps)
