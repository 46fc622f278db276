use Rattle.std.proofs.Common.{map, vec_items, arith}
use Rattle.std.proofs.lemmas.List.{length-map}
use Rattle.tl_append.proofs.ShownBatch.{spent_at_most, spent_cosigned, spent_shown}
use Rattle.tl_append.proofs.sealed_shelf.SealedShelfLogShelf.append.Goals as goal

pub returns-in-Ok-shed_spent-clause-all : goal.returns-in-Ok-shed_spent-clause-all
returns-in-Ok-shed_spent-clause-all g c =
    spent_shown (g.K.LogSigner.log_key c.args.key.now) (g.Z.SealsNotes.quorum c.args.self.now.sealer) (map vec_items c.args.batch.now) (g.S.Shelf.kept c.args.self.now.shelf) (g.S.Shelf.kept c.show.new.self.shelf) (g.S.Shelf.kept c.shed_spent.new.shelf)
    (g.S.Shelf.trace c.args.self.now.shelf) (g.S.Shelf.trace c.show.new.self.shelf) (g.S.Shelf.trace c.shed_spent.new.shelf) c.args.ledger.now c.show.new.ledger
    c.in-Ok.ensures.all c.size.result c.size.ensures c.shed_spent.ensures.sheds.kept c.shed_spent.ensures.sheds.safe

pub returns-in-Err-shed_spent-clause-part : goal.returns-in-Err-shed_spent-clause-part
returns-in-Err-shed_spent-clause-part g c =
    spent_at_most (g.K.LogSigner.log_key c.args.key.now) (g.Z.SealsNotes.quorum c.args.self.now.sealer) (map vec_items c.args.batch.now) (g.S.Shelf.kept c.args.self.now.shelf) (g.S.Shelf.kept c.show.new.self.shelf) (g.S.Shelf.kept c.shed_spent.new.shelf)
    (g.S.Shelf.trace c.args.self.now.shelf) (g.S.Shelf.trace c.show.new.self.shelf) (g.S.Shelf.trace c.shed_spent.new.shelf) c.args.ledger.now c.show.new.ledger
    c.in-Ok.ensures.all c.size.result c.size.ensures c.shed_spent.ensures.sheds.kept c.shed_spent.ensures.sheds.safe
    (omega (arith, c.in-Ok.ensures.sized, length-map c.args.batch.now vec_items))

pub returns-in-Ok-shed_spent-clause-there : goal.returns-in-Ok-shed_spent-clause-there
returns-in-Ok-shed_spent-clause-there g c =
    spent_cosigned (g.K.LogSigner.log_key c.args.key.now) (g.Z.SealsNotes.quorum c.args.self.now.sealer) (map vec_items c.args.batch.now) (g.S.Shelf.kept c.args.self.now.shelf) (g.S.Shelf.kept c.show.new.self.shelf) (g.S.Shelf.kept c.shed_spent.new.shelf)
    (g.S.Shelf.trace c.args.self.now.shelf) (g.S.Shelf.trace c.show.new.self.shelf) (g.S.Shelf.trace c.shed_spent.new.shelf) c.args.ledger.now c.show.new.ledger
    c.in-Ok.ensures.all c.size.result c.size.ensures c.shed_spent.ensures.sheds.kept c.shed_spent.ensures.sheds.safe _ c.shed_spent.ensures.sheds.spent
