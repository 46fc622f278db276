use Rattle.std.proofs.Common.{arith}
use Rattle.std.proofs.lemmas.Grind.{common_steps}
use Rattle.tl_append.specs.Keys.{log_key_of}
use Rattle.tl_serve.proofs.Shelves.{serving_begun}
use Rattle.tl_serve.proofs.shelf_log.ShelfLog.new.Goals as goal

pub returns-clause-holds : goal.returns-clause-holds
returns-clause-holds g c =
    serving_begun (log_key_of c.args.key) (g.S.LogShelf.quorum c.args.shelf) g.S.LogShelf.kept g.S.LogShelf.trace c.of-began.result.value c.args.shelf c.of-was.result.value c.args.ledger c.args.intake c.args.is_due
    c.of-began.ensures c.of-was.ensures c.requires.name c.requires.drained c.requires.waiting

pub returns-clause-begun : goal.returns-clause-begun
returns-clause-begun g c = grind (arith, common_steps)
