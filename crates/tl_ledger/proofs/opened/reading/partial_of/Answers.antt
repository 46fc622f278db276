use Rattle.tl_tile.proofs.Below.{partial-named}
use Rattle.tl_ledger.proofs.opened.reading.partial_of.Goals as goal

pub returns : goal.returns
returns c = partial-named c.args.size c.args.level
