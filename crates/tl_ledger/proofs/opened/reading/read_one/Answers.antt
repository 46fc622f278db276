use Rattle.std.proofs.Common.{rules}
use Rattle.tl_ledger.proofs.Reopening.{read_last, read_more}
use Rattle.tl_ledger.proofs.opened.reading.read_one.Goals as goal

pub returns-clause-more : goal.returns-clause-more
returns-clause-more g c =
    read_more g.S.Shelf.is_honest (g.S.Shelf.kept c.args.shelf.now).held c.args.read.now c.push.new.self c.args.resource c.in-Ok-Some.bytes.items c.in_ok-push.ensures (λ own. search (own, rules))

pub returns-clause-has : goal.returns-clause-has
returns-clause-has g c = read_last c.args.read.now c.push.new.self c.args.resource c.in-Ok-Some.bytes.items c.in_ok-push.ensures
