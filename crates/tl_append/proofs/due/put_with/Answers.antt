use Rattle.std.proofs.Common.{◌∙◌, inl, inr, [], Option, map, vec_items, refl, sym, subst, arith}
use Rattle.std.proofs.lemmas.Grind.{common_steps}
use Rattle.tl_append.specs.Inner.Due.{PublishesDue, ShowsDue}
use Rattle.tl_append.specs.declared.due.Due.{Due}
use Rattle.tl_append.proofs.Turns.{along}
use Rattle.tl_append.proofs.Publishing.{ended_due, ended_shows, none_behind, none_due, none_put, none_shown, sealed_due}
use Rattle.tl_append.proofs.due.put_with.Goals as goal

pub returns-in-Ok-clause-publishes : goal.returns-in-Ok-clause-publishes
returns-in-Ok-clause-publishes g c = λ key signed.
    subst (λ (d : Option Due). PublishesDue key d (map vec_items c.args.batch.now) (along (g.S.Shelf.kept c.args.shelf.now) (g.S.Shelf.kept c.put.new.shelf) (g.S.Shelf.trace c.args.shelf.now) (g.S.Shelf.trace c.put.new.shelf) c.args.ledger.now c.put.new.self)) (sym c.in-None.is)
    (none_due key (g.S.Shelf.kept c.args.shelf.now) (g.S.Shelf.kept c.put.new.shelf) (g.S.Shelf.trace c.args.shelf.now) (g.S.Shelf.trace c.put.new.shelf) c.args.ledger.now c.put.new.self (map vec_items c.args.batch.now) c.in-Ok.ensures.kept c.put.ensures.safe)

pub returns-in-Err-clause-part : goal.returns-in-Err-clause-part
returns-in-Err-clause-part g c = λ key signed. (
  [],
  inl refl,
  subst (λ (d : Option Due). PublishesDue key d [] (along (g.S.Shelf.kept c.args.shelf.now) (g.S.Shelf.kept c.put.new.shelf) (g.S.Shelf.trace c.args.shelf.now) (g.S.Shelf.trace c.put.new.shelf) c.args.ledger.now c.put.new.self)) (sym c.in-None.is)
      (none_put key (g.S.Shelf.kept c.args.shelf.now) (g.S.Shelf.kept c.put.new.shelf) (g.S.Shelf.trace c.args.shelf.now) (g.S.Shelf.trace c.put.new.shelf) c.args.ledger.now c.put.new.self c.in-Err.ensures.stayed c.put.ensures.safe),
)

pub returns-in-Ok-clause-shows : goal.returns-in-Ok-clause-shows
returns-in-Ok-clause-shows g c = λ key signed.
    subst (λ (d : Option Due). ShowsDue key c.args.keeps_partials d (g.S.Shelf.published c.put.new.shelf) (along (g.S.Shelf.kept c.args.shelf.now) (g.S.Shelf.kept c.put.new.shelf) (g.S.Shelf.trace c.args.shelf.now) (g.S.Shelf.trace c.put.new.shelf) c.args.ledger.now c.put.new.self)) (sym c.in-None.is)
    (none_shown key c.args.keeps_partials (g.S.Shelf.published c.put.new.shelf) (along (g.S.Shelf.kept c.args.shelf.now) (g.S.Shelf.kept c.put.new.shelf) (g.S.Shelf.trace c.args.shelf.now) (g.S.Shelf.trace c.put.new.shelf) c.args.ledger.now c.put.new.self))

pub returns-in-Err-seal_and_put-clause-part : goal.returns-in-Err-seal_and_put-clause-part
returns-in-Err-seal_and_put-clause-part g c = λ key signed. (
  [],
  inl refl,
  sealed_due key c.args.due c.in-Some.last c.in-Some.is c.as_bytes.result.now c.as_bytes.ensures.value (g.S.Shelf.kept c.args.shelf.now) (g.S.Shelf.kept c.seal_and_put.new.shelf) (g.S.Shelf.trace c.args.shelf.now) (g.S.Shelf.trace c.seal_and_put.new.shelf) c.args.ledger.now c.seal_and_put.new.self []
      signed (none_behind (g.S.Shelf.kept c.args.shelf.now) (g.S.Shelf.kept c.seal_and_put.new.shelf) c.args.ledger.now c.seal_and_put.new.self c.as_bytes.result.now c.in-Err-seal_and_put.ensures.stayed) c.seal_and_put.ensures.safe,
)

pub returns-in-Ok-end_publication-clause-publishes : goal.returns-in-Ok-end_publication-clause-publishes
returns-in-Ok-end_publication-clause-publishes g c = λ key signed.
    ended_due key c.args.due c.in-Some.last c.in-Some.is c.as_bytes.result.now c.as_bytes.ensures.value (g.S.Shelf.kept c.args.shelf.now) (g.S.Shelf.kept c.seal_and_put.new.shelf) (g.S.Shelf.trace c.args.shelf.now) (g.S.Shelf.trace c.seal_and_put.new.shelf) c.args.ledger.now c.seal_and_put.new.self (map vec_items c.args.batch.now)
    signed c.in-Ok-seal_and_put.ensures.kept c.seal_and_put.ensures.safe
    (g.S.Shelf.kept c.end_publication.new.shelf) (g.S.Shelf.trace c.end_publication.new.shelf) c.size-size.result c.size-size.ensures c.in-Ok-seal_and_put.ensures.there c.end_publication.ensures.sheds

pub returns-in-Ok-end_publication-clause-shows : goal.returns-in-Ok-end_publication-clause-shows
returns-in-Ok-end_publication-clause-shows g c = λ key signed.
    ended_shows key c.args.due c.in-Some.last c.in-Some.is c.as_bytes.result.now c.as_bytes.ensures.value (g.S.Shelf.kept c.args.shelf.now) (g.S.Shelf.kept c.seal_and_put.new.shelf) (g.S.Shelf.trace c.args.shelf.now) (g.S.Shelf.trace c.seal_and_put.new.shelf) c.args.ledger.now c.seal_and_put.new.self (map vec_items c.args.batch.now)
    signed c.in-Ok-seal_and_put.ensures.kept c.seal_and_put.ensures.safe
    (g.S.Shelf.kept c.end_publication.new.shelf) (g.S.Shelf.trace c.end_publication.new.shelf) c.size-size.result c.size-size.ensures c.in-Ok-seal_and_put.ensures.there c.end_publication.ensures.sheds
    c.args.keeps_partials (g.S.Shelf.published c.end_publication.new.shelf) (c.end_publication.ensures.mark ∙ c.in-Ok-seal_and_put.ensures.marked) c.in-Ok-seal_and_put.ensures.seen c.in-Ok-end_publication.ensures.gone

pub returns-clause-part : goal.returns-clause-part
returns-clause-part g c = λ key signed. (
  (map vec_items c.args.batch.now),
  inr refl,
  ended_due key c.args.due c.in-Some.last c.in-Some.is c.as_bytes.result.now c.as_bytes.ensures.value (g.S.Shelf.kept c.args.shelf.now) (g.S.Shelf.kept c.seal_and_put.new.shelf) (g.S.Shelf.trace c.args.shelf.now) (g.S.Shelf.trace c.seal_and_put.new.shelf) c.args.ledger.now c.seal_and_put.new.self (map vec_items c.args.batch.now)
      signed c.in-Ok-seal_and_put.ensures.kept c.seal_and_put.ensures.safe
      (g.S.Shelf.kept c.end_publication.new.shelf) (g.S.Shelf.trace c.end_publication.new.shelf) c.size-size.result c.size-size.ensures c.in-Ok-seal_and_put.ensures.there c.end_publication.ensures.sheds,
)

pub returns-in-Ok-clause-printed : goal.returns-in-Ok-clause-printed
returns-in-Ok-clause-printed g c = grind (arith, common_steps)

pub seal_and_put-requires-clause-short : goal.seal_and_put-requires-clause-short
seal_and_put-requires-clause-short g c = grind (arith, common_steps)
