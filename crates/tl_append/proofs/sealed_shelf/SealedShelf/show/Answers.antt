use Rattle.std.proofs.Common.{map, vec_items, arith}
use Rattle.std.proofs.lemmas.List.{length-map}
use Rattle.tl_append.proofs.ShownBatch.{not_put, not_sealed, not_shown, one_sealed}
use Rattle.tl_append.proofs.sealed_shelf.SealedShelf.show.Goals as goal

pub returns-in-Err-clause-part : goal.returns-in-Err-clause-part
returns-in-Err-clause-part g c =
    not_put (g.K.LogSigner.log_key c.args.key.now) (g.Z.SealsNotes.quorum c.args.self.now.sealer) (map vec_items c.args.batch.now) (g.S.Shelf.kept c.args.self.now.shelf) (g.S.Shelf.kept c.put_batch.new.shelf)
    (g.S.Shelf.trace c.args.self.now.shelf) (g.S.Shelf.trace c.put_batch.new.shelf) c.args.ledger.now c.put_batch.new.ledger c.put_batch.ensures.safe c.in-Err.ensures.stayed c.in-Err.ensures.same

pub returns-in-Err-sealed_note-clause-part : goal.returns-in-Err-sealed_note-clause-part
returns-in-Err-sealed_note-clause-part g c =
    not_shown (g.K.LogSigner.log_key c.args.key.now) (g.Z.SealsNotes.quorum c.args.self.now.sealer) (map vec_items c.args.batch.now) (g.S.Shelf.kept c.args.self.now.shelf) (g.S.Shelf.kept c.put_batch.new.shelf)
    (g.S.Shelf.trace c.args.self.now.shelf) (g.S.Shelf.trace c.put_batch.new.shelf) c.args.ledger.now c.put_batch.new.ledger c.put_batch.ensures.safe c.in-Ok.ensures.kept
    (omega (arith, c.in-Ok.ensures.sized, length-map c.args.batch.now vec_items))

pub returns-in-Ok-seal-clause-all : goal.returns-in-Ok-seal-clause-all
returns-in-Ok-seal-clause-all g c =
    one_sealed (g.K.LogSigner.log_key c.args.key.now) (g.Z.SealsNotes.quorum c.args.self.now.sealer) (map vec_items c.args.batch.now) (g.S.Shelf.kept c.args.self.now.shelf) (g.S.Shelf.kept c.put_batch.new.shelf)
    (g.S.Shelf.trace c.args.self.now.shelf) (g.S.Shelf.trace c.put_batch.new.shelf) c.args.ledger.now c.put_batch.new.ledger c.put_batch.ensures.safe c.in-Ok.ensures.kept
    (omega (arith, c.in-Ok.ensures.sized, length-map c.args.batch.now vec_items))
    (g.S.Shelf.kept c.seal.new.shelf) (g.S.Shelf.trace c.seal.new.shelf) _ c.as_bytes.result.now
    c.in-Ok-sealed_note.ensures.note c.in-Ok-sealed_note.ensures.quorum c.as_bytes.ensures.value
    c.seal.ensures.kept c.seal.ensures.safe c.in-Ok-seal.ensures.there

pub returns-clause-part : goal.returns-clause-part
returns-clause-part g c =
    not_sealed (g.K.LogSigner.log_key c.args.key.now) (g.Z.SealsNotes.quorum c.args.self.now.sealer) (map vec_items c.args.batch.now) (g.S.Shelf.kept c.args.self.now.shelf) (g.S.Shelf.kept c.put_batch.new.shelf)
    (g.S.Shelf.trace c.args.self.now.shelf) (g.S.Shelf.trace c.put_batch.new.shelf) c.args.ledger.now c.put_batch.new.ledger c.put_batch.ensures.safe c.in-Ok.ensures.kept
    (omega (arith, c.in-Ok.ensures.sized, length-map c.args.batch.now vec_items))
    (g.S.Shelf.kept c.seal.new.shelf) (g.S.Shelf.trace c.seal.new.shelf) _ c.as_bytes.result.now
    c.in-Ok-sealed_note.ensures.note c.in-Ok-sealed_note.ensures.quorum c.as_bytes.ensures.value
    c.seal.ensures.kept c.seal.ensures.safe
