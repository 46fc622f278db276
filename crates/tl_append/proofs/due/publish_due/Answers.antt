use Rattle.std.proofs.Common.{◌∙◌, [], sym, arith}
use Rattle.std.proofs.lemmas.Grind.{common_steps}
use Rattle.tl_append.proofs.Publishing.{ended_due, ended_shows, none_behind, sealed_due}
use Rattle.tl_append.proofs.due.publish_due.Goals as goal

pub returns-in-Err-clause-publishes : goal.returns-in-Err-clause-publishes
returns-in-Err-clause-publishes g c = λ key signed.
    sealed_due key c.args.due.now c.in-Some.last (sym c.take.ensures.value ∙ c.in-Some.is) c.as_bytes.result.now c.as_bytes.ensures.value (g.S.Shelf.kept c.args.shelf.now) (g.S.Shelf.kept c.seal.new.shelf) (g.S.Shelf.trace c.args.shelf.now) (g.S.Shelf.trace c.seal.new.shelf) c.args.ledger.now c.args.ledger.now []
    signed (none_behind (g.S.Shelf.kept c.args.shelf.now) (g.S.Shelf.kept c.seal.new.shelf) c.args.ledger.now c.args.ledger.now c.as_bytes.result.now c.seal.ensures.kept) c.seal.ensures.safe

pub returns-in-Ok-end_publication-clause-publishes : goal.returns-in-Ok-end_publication-clause-publishes
returns-in-Ok-end_publication-clause-publishes g c = λ key signed.
    ended_due key c.args.due.now c.in-Some.last (sym c.take.ensures.value ∙ c.in-Some.is) c.as_bytes.result.now c.as_bytes.ensures.value (g.S.Shelf.kept c.args.shelf.now) (g.S.Shelf.kept c.seal.new.shelf) (g.S.Shelf.trace c.args.shelf.now) (g.S.Shelf.trace c.seal.new.shelf) c.args.ledger.now c.args.ledger.now []
    signed (none_behind (g.S.Shelf.kept c.args.shelf.now) (g.S.Shelf.kept c.seal.new.shelf) c.args.ledger.now c.args.ledger.now c.as_bytes.result.now c.seal.ensures.kept) c.seal.ensures.safe
    (g.S.Shelf.kept c.end_publication.new.shelf) (g.S.Shelf.trace c.end_publication.new.shelf) c.size-size.result c.size-size.ensures (λ h log was_kept. record { note = c.in-Ok.ensures.there h log was_kept; all = (c.seal.ensures.kept h log was_kept).whole }) c.end_publication.ensures.sheds

pub returns-clause-publishes : goal.returns-clause-publishes
returns-clause-publishes g c = λ key signed.
    ended_due key c.args.due.now c.in-Some.last (sym c.take.ensures.value ∙ c.in-Some.is) c.as_bytes.result.now c.as_bytes.ensures.value (g.S.Shelf.kept c.args.shelf.now) (g.S.Shelf.kept c.seal.new.shelf) (g.S.Shelf.trace c.args.shelf.now) (g.S.Shelf.trace c.seal.new.shelf) c.args.ledger.now c.args.ledger.now []
    signed (none_behind (g.S.Shelf.kept c.args.shelf.now) (g.S.Shelf.kept c.seal.new.shelf) c.args.ledger.now c.args.ledger.now c.as_bytes.result.now c.seal.ensures.kept) c.seal.ensures.safe
    (g.S.Shelf.kept c.end_publication.new.shelf) (g.S.Shelf.trace c.end_publication.new.shelf) c.size-size.result c.size-size.ensures (λ h log was_kept. record { note = c.in-Ok.ensures.there h log was_kept; all = (c.seal.ensures.kept h log was_kept).whole }) c.end_publication.ensures.sheds

pub returns-in-Ok-end_publication-clause-shows : goal.returns-in-Ok-end_publication-clause-shows
returns-in-Ok-end_publication-clause-shows g c = λ key signed.
    ended_shows key c.args.due.now c.in-Some.last (sym c.take.ensures.value ∙ c.in-Some.is) c.as_bytes.result.now c.as_bytes.ensures.value (g.S.Shelf.kept c.args.shelf.now) (g.S.Shelf.kept c.seal.new.shelf) (g.S.Shelf.trace c.args.shelf.now) (g.S.Shelf.trace c.seal.new.shelf) c.args.ledger.now c.args.ledger.now []
    signed (none_behind (g.S.Shelf.kept c.args.shelf.now) (g.S.Shelf.kept c.seal.new.shelf) c.args.ledger.now c.args.ledger.now c.as_bytes.result.now c.seal.ensures.kept) c.seal.ensures.safe
    (g.S.Shelf.kept c.end_publication.new.shelf) (g.S.Shelf.trace c.end_publication.new.shelf) c.size-size.result c.size-size.ensures (λ h log was_kept. record { note = c.in-Ok.ensures.there h log was_kept; all = (c.seal.ensures.kept h log was_kept).whole }) c.end_publication.ensures.sheds
    c.args.keeps_partials (g.S.Shelf.published c.end_publication.new.shelf) (c.end_publication.ensures.mark ∙ c.in-Ok.ensures.marked) c.in-Ok.ensures.seen c.in-Ok-end_publication.ensures.gone

pub returns-clause-same : goal.returns-clause-same
returns-clause-same g c = grind (arith, common_steps)

pub returns-in-Err-clause-same : goal.returns-in-Err-clause-same
returns-in-Err-clause-same g c = grind (arith, common_steps)

pub returns-in-None-clause-publishes : goal.returns-in-None-clause-publishes
returns-in-None-clause-publishes g c = grind (arith, common_steps)

pub returns-in-None-clause-shows : goal.returns-in-None-clause-shows
returns-in-None-clause-shows g c = grind (arith, common_steps)

pub returns-in-Ok-end_publication-clause-same : goal.returns-in-Ok-end_publication-clause-same
returns-in-Ok-end_publication-clause-same g c = grind (arith, common_steps)
