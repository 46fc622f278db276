use Rattle.std.proofs.Common.{map, vec_items, arith}
use Rattle.std.proofs.lemmas.List.{length-map}
use Rattle.tl_append.proofs.Turns.{not_put, not_sealed, not_signed, one_appended, one_noted, one_shown}
use Rattle.tl_append.proofs.batch.publish_batch.Goals as goal

pub returns-in-Err-clause-part : goal.returns-in-Err-clause-part
returns-in-Err-clause-part g c =
    not_put (g.K.LogSigner.log_key c.args.key.now) (map vec_items c.args.batch.now) (g.S.Shelf.kept c.args.shelf.now) (g.S.Shelf.kept c.put_batch.new.shelf)
    (g.S.Shelf.trace c.args.shelf.now) (g.S.Shelf.trace c.put_batch.new.shelf) c.args.ledger.now c.put_batch.new.ledger c.put_batch.ensures.safe c.in-Err.ensures.stayed c.in-Err.ensures.same

pub returns-in-Err-sign_checkpoint-clause-part : goal.returns-in-Err-sign_checkpoint-clause-part
returns-in-Err-sign_checkpoint-clause-part g c =
    not_signed (g.K.LogSigner.log_key c.args.key.now) (map vec_items c.args.batch.now) (g.S.Shelf.kept c.args.shelf.now) (g.S.Shelf.kept c.put_batch.new.shelf)
    (g.S.Shelf.trace c.args.shelf.now) (g.S.Shelf.trace c.put_batch.new.shelf) c.args.ledger.now c.put_batch.new.ledger c.put_batch.ensures.safe c.in-Ok.ensures.kept
    (omega (arith, c.in-Ok.ensures.sized, length-map c.args.batch.now vec_items))

pub returns-in-Ok-seal-clause-all : goal.returns-in-Ok-seal-clause-all
returns-in-Ok-seal-clause-all g c =
    one_appended (g.K.LogSigner.log_key c.args.key.now) (map vec_items c.args.batch.now) (g.S.Shelf.kept c.args.shelf.now) (g.S.Shelf.kept c.put_batch.new.shelf)
    (g.S.Shelf.trace c.args.shelf.now) (g.S.Shelf.trace c.put_batch.new.shelf) c.args.ledger.now c.put_batch.new.ledger c.put_batch.ensures.safe c.in-Ok.ensures.kept
    (omega (arith, c.in-Ok.ensures.sized, length-map c.args.batch.now vec_items))
    (g.S.Shelf.kept c.seal.new.shelf) (g.S.Shelf.trace c.seal.new.shelf) c.size-size.result c.root-root.result _ c.as_bytes.result.now
    c.size-size.ensures c.root-root.ensures c.in-Ok-sign_checkpoint.ensures.note c.as_bytes.ensures.value c.seal.ensures.kept c.seal.ensures.safe

pub returns-clause-part : goal.returns-clause-part
returns-clause-part g c =
    not_sealed (g.K.LogSigner.log_key c.args.key.now) (map vec_items c.args.batch.now) (g.S.Shelf.kept c.args.shelf.now) (g.S.Shelf.kept c.put_batch.new.shelf)
    (g.S.Shelf.trace c.args.shelf.now) (g.S.Shelf.trace c.put_batch.new.shelf) c.args.ledger.now c.put_batch.new.ledger c.put_batch.ensures.safe c.in-Ok.ensures.kept
    (omega (arith, c.in-Ok.ensures.sized, length-map c.args.batch.now vec_items))
    (g.S.Shelf.kept c.seal.new.shelf) (g.S.Shelf.trace c.seal.new.shelf) c.size-size.result c.root-root.result _ c.as_bytes.result.now
    c.size-size.ensures c.root-root.ensures c.in-Ok-sign_checkpoint.ensures.note c.as_bytes.ensures.value c.seal.ensures.kept c.seal.ensures.safe

pub returns-in-Ok-seal-clause-shown : goal.returns-in-Ok-seal-clause-shown
returns-in-Ok-seal-clause-shown g c =
    one_shown (g.K.LogSigner.log_key c.args.key.now) (map vec_items c.args.batch.now) (g.S.Shelf.kept c.args.shelf.now) (g.S.Shelf.kept c.put_batch.new.shelf)
    (g.S.Shelf.trace c.args.shelf.now) (g.S.Shelf.trace c.put_batch.new.shelf) c.args.ledger.now c.put_batch.new.ledger c.put_batch.ensures.safe c.in-Ok.ensures.kept
    (omega (arith, c.in-Ok.ensures.sized, length-map c.args.batch.now vec_items))
    (g.S.Shelf.kept c.seal.new.shelf) (g.S.Shelf.trace c.seal.new.shelf) c.size-size.result c.root-root.result _ c.as_bytes.result.now
    c.size-size.ensures c.root-root.ensures c.in-Ok-sign_checkpoint.ensures.note c.as_bytes.ensures.value c.seal.ensures.kept c.seal.ensures.safe
    c.in-Ok-seal.ensures.there

pub returns-in-Ok-seal-clause-there : goal.returns-in-Ok-seal-clause-there
returns-in-Ok-seal-clause-there g c =
    one_noted (g.K.LogSigner.log_key c.args.key.now) (map vec_items c.args.batch.now) (g.S.Shelf.kept c.args.shelf.now) (g.S.Shelf.kept c.put_batch.new.shelf)
    (g.S.Shelf.trace c.args.shelf.now) (g.S.Shelf.trace c.put_batch.new.shelf) c.args.ledger.now c.put_batch.new.ledger c.put_batch.ensures.safe c.in-Ok.ensures.kept
    (omega (arith, c.in-Ok.ensures.sized, length-map c.args.batch.now vec_items))
    (g.S.Shelf.kept c.seal.new.shelf) (g.S.Shelf.trace c.seal.new.shelf) c.size-size.result c.root-root.result _ c.as_bytes.result.now
    c.size-size.ensures c.root-root.ensures c.in-Ok-sign_checkpoint.ensures.note c.as_bytes.ensures.value c.seal.ensures.kept c.seal.ensures.safe
    c.in-Ok-seal.ensures.there
