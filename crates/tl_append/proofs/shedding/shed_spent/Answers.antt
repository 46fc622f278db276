use Rattle.tl_append.proofs.Sheds.{none_shed}
use Rattle.tl_append.proofs.shedding.shed_spent.Goals as goal

pub returns-then-keeps_partials-clause-sheds : goal.returns-then-keeps_partials-clause-sheds
returns-then-keeps_partials-clause-sheds g c = none_shed c.args.size (g.S.Shelf.kept c.args.shelf.now) (g.S.Shelf.trace c.args.shelf.now)

pub returns-in-Ok-clause-sheds : goal.returns-in-Ok-clause-sheds
returns-in-Ok-clause-sheds g c = record { kept = c.remove_spent.ensures.kept; safe = c.remove_spent.ensures.safe; spent = c.remove_spent.ensures.spent }

pub returns-in-Err-clause-sheds : goal.returns-in-Err-clause-sheds
returns-in-Err-clause-sheds g c = record { kept = c.remove_spent.ensures.kept; safe = c.remove_spent.ensures.safe; spent = c.remove_spent.ensures.spent }
