use Rattle.std.proofs.Common.{map, vec_items, arith}
use Rattle.std.proofs.lemmas.List.{length-map}
use Rattle.tl_append.proofs.Turns.{at_most, spent_noted, spent_removed}
use Rattle.tl_append.proofs.batch.append_batch.Goals as goal

pub returns-in-Ok-shed_spent-clause-all : goal.returns-in-Ok-shed_spent-clause-all
returns-in-Ok-shed_spent-clause-all g c =
    spent_removed (g.K.LogSigner.log_key c.args.key.now) (map vec_items c.args.batch.now) (g.S.Shelf.kept c.args.shelf.now) (g.S.Shelf.kept c.publish_batch.new.shelf) (g.S.Shelf.kept c.shed_spent.new.shelf)
    (g.S.Shelf.trace c.args.shelf.now) (g.S.Shelf.trace c.publish_batch.new.shelf) (g.S.Shelf.trace c.shed_spent.new.shelf) c.args.ledger.now c.publish_batch.new.ledger
    c.size.result c.size.ensures c.in-Ok.ensures.all c.in-Ok.ensures.shown c.shed_spent.ensures.sheds.kept c.shed_spent.ensures.sheds.safe

pub returns-in-Err-shed_spent-clause-part : goal.returns-in-Err-shed_spent-clause-part
returns-in-Err-shed_spent-clause-part g c =
    at_most (g.K.LogSigner.log_key c.args.key.now) (map vec_items c.args.batch.now) (g.S.Shelf.kept c.args.shelf.now) (g.S.Shelf.kept c.shed_spent.new.shelf)
    (g.S.Shelf.trace c.args.shelf.now) (g.S.Shelf.trace c.shed_spent.new.shelf) c.args.ledger.now c.publish_batch.new.ledger
    (omega (arith, c.in-Ok.ensures.sized, length-map c.args.batch.now vec_items))
    (spent_removed (g.K.LogSigner.log_key c.args.key.now) (map vec_items c.args.batch.now) (g.S.Shelf.kept c.args.shelf.now) (g.S.Shelf.kept c.publish_batch.new.shelf) (g.S.Shelf.kept c.shed_spent.new.shelf)
    (g.S.Shelf.trace c.args.shelf.now) (g.S.Shelf.trace c.publish_batch.new.shelf) (g.S.Shelf.trace c.shed_spent.new.shelf) c.args.ledger.now c.publish_batch.new.ledger
    c.size.result c.size.ensures c.in-Ok.ensures.all c.in-Ok.ensures.shown c.shed_spent.ensures.sheds.kept c.shed_spent.ensures.sheds.safe)

pub returns-in-Ok-shed_spent-clause-there : goal.returns-in-Ok-shed_spent-clause-there
returns-in-Ok-shed_spent-clause-there g c =
    spent_noted (g.K.LogSigner.log_key c.args.key.now) (map vec_items c.args.batch.now) (g.S.Shelf.kept c.args.shelf.now) (g.S.Shelf.kept c.publish_batch.new.shelf) (g.S.Shelf.kept c.shed_spent.new.shelf)
    (g.S.Shelf.trace c.args.shelf.now) (g.S.Shelf.trace c.publish_batch.new.shelf) (g.S.Shelf.trace c.shed_spent.new.shelf) c.args.ledger.now c.publish_batch.new.ledger _
    c.in-Ok.ensures.there c.shed_spent.ensures.sheds.spent
