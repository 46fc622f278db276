use Rattle.std.proofs.Common.{refl, arith}
use Rattle.std.proofs.lemmas.Grind.{common_steps}
use Rattle.tl_sequencer.proofs.opening.open_from.Goals as goal

pub returns-clause-opened : goal.returns-clause-opened
returns-clause-opened g c =
    let new = c.in-Ok.ensures in
    rw c.new-log.ensures record { base = refl; taken = refl; who = refl; limited = refl; counted = new.counted; fresh = new.fresh; as_many = new.as_many; order = new.order; own = new.own; unsent = new.unsent }

pub new-log-requires-clause-short : goal.new-log-requires-clause-short
new-log-requires-clause-short g c = grind (arith, common_steps)
