use Rattle.std.proofs.Common.{◌≡◌, ◌∙◌, ◌⊎◌, inr, [], List, Option, map, vec_items, refl, subst, arith}
use Rattle.std.proofs.lemmas.Grind.{common_steps}
use Rattle.tl_hash.specs.Bytes.{Bytes}
use Rattle.tl_device.specs.Device.{passage}
use Rattle.tl_append.specs.Inner.Due.{IsSigned, PrintsDue, PublishesDue, ShowsDue}
use Rattle.tl_append.specs.declared.due.Due.{Due}
use Rattle.tl_append.proofs.Turns.{along}
use Rattle.tl_append.proofs.due.put_due.Goals as goal

pub returns-in-Err-put_with-clause-part : goal.returns-in-Err-put_with-clause-part
returns-in-Err-put_with-clause-part g c =
    subst (λ (d : Option Due). IsSigned (g.K.LogSigner.log_key c.args.key.now) c.args.ledger.now d → (put : List Bytes) × ((put ≡ []) ⊎ (put ≡ map vec_items c.args.batch.now)) × PublishesDue (g.K.LogSigner.log_key c.args.key.now) d put (along (g.S.Shelf.kept c.args.shelf.now) (g.S.Shelf.kept c.put_with.new.shelf) (g.S.Shelf.trace c.args.shelf.now) (g.S.Shelf.trace c.put_with.new.shelf) c.args.ledger.now c.put_with.new.ledger))
    c.take.ensures.value (c.in-Err-put_with.ensures.part (g.K.LogSigner.log_key c.args.key.now))

pub returns-in-Ok-sign_due-clause-printed : goal.returns-in-Ok-sign_due-clause-printed
returns-in-Ok-sign_due-clause-printed g c =
    subst (λ (d : Option Due). IsSigned (g.K.LogSigner.log_key c.args.key.now) c.args.ledger.now d → PrintsDue (g.K.LogSigner.log_key c.args.key.now) d (along (g.S.Shelf.kept c.args.shelf.now) (g.S.Shelf.kept c.put_with.new.shelf) (g.S.Shelf.trace c.args.shelf.now) (g.S.Shelf.trace c.put_with.new.shelf) c.args.ledger.now c.put_with.new.ledger) (passage g.W.Write.contents c.args.writer.now c.put_with.new.writer))
    c.take.ensures.value (c.in-Ok-put_with.ensures.printed (g.K.LogSigner.log_key c.args.key.now))

pub returns-in-Err-sign_due-clause-part : goal.returns-in-Err-sign_due-clause-part
returns-in-Err-sign_due-clause-part g c = λ signed. (
  (map vec_items c.args.batch.now),
  inr refl,
  subst (λ (d : Option Due). IsSigned (g.K.LogSigner.log_key c.args.key.now) c.args.ledger.now d → PublishesDue (g.K.LogSigner.log_key c.args.key.now) d (map vec_items c.args.batch.now) (along (g.S.Shelf.kept c.args.shelf.now) (g.S.Shelf.kept c.put_with.new.shelf) (g.S.Shelf.trace c.args.shelf.now) (g.S.Shelf.trace c.put_with.new.shelf) c.args.ledger.now c.put_with.new.ledger)) c.take.ensures.value (c.in-Ok-put_with.ensures.publishes (g.K.LogSigner.log_key c.args.key.now)) signed,
)

pub returns-in-Ok-sign_due-clause-due : goal.returns-in-Ok-sign_due-clause-due
returns-in-Ok-sign_due-clause-due g c = (c.in-Ok-sign_due.last, refl, c.in-Ok-sign_due.ensures.from ∙ c.size-from.ensures)

pub returns-in-Ok-sign_due-clause-shows : goal.returns-in-Ok-sign_due-clause-shows
returns-in-Ok-sign_due-clause-shows g c =
    subst (λ (d : Option Due). IsSigned (g.K.LogSigner.log_key c.args.key.now) c.args.ledger.now d → ShowsDue (g.K.LogSigner.log_key c.args.key.now) c.args.keeps_partials d (g.S.Shelf.published c.put_with.new.shelf) (along (g.S.Shelf.kept c.args.shelf.now) (g.S.Shelf.kept c.put_with.new.shelf) (g.S.Shelf.trace c.args.shelf.now) (g.S.Shelf.trace c.put_with.new.shelf) c.args.ledger.now c.put_with.new.ledger))
    c.take.ensures.value (c.in-Ok-put_with.ensures.shows (g.K.LogSigner.log_key c.args.key.now))

pub put_with-requires-clause-short : goal.put_with-requires-clause-short
put_with-requires-clause-short g c = grind (arith, common_steps)

pub returns-in-Err-clause-part : goal.returns-in-Err-clause-part
returns-in-Err-clause-part g c = grind (arith, common_steps)

pub returns-in-Ok-clause-part : goal.returns-in-Ok-clause-part
returns-in-Ok-clause-part g c = grind (arith, common_steps)

pub returns-in-Ok-sign_due-clause-publishes : goal.returns-in-Ok-sign_due-clause-publishes
returns-in-Ok-sign_due-clause-publishes g c = grind (arith, common_steps)
