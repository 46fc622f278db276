use Rattle.std.proofs.Common.{inr, ap, subst, sym, ◌∙◌}
use Rattle.tl_sequencer.specs.Log.{rings_of}
use Rattle.tl_append.specs.Keys.{log_key_of}
use Rattle.tl_append.specs.Running.{visit}
use Rattle.tl_serve.specs.Serving.{ServesPart}
use Rattle.tl_serve.specs.Inner.Shelved.{ServesUnder}
use Rattle.tl_serve.proofs.Ends.{senders_stay}
use Rattle.tl_serve.specs.Inner.Running.{Begun}
use Rattle.tl_serve.proofs.Shelves.{begun_one, part_as, serves_part, serves_under, under_as}
use Rattle.tl_serve.proofs.serve_shelf.serve_under.Goals as goal

pub returns-in-Err-show_first-clause-serves : goal.returns-in-Err-show_first-clause-serves
returns-in-Err-show_first-clause-serves g c =
    inr (subst (λ s. ServesPart (log_key_of c.args.keys.signer) (g.S.LogShelf.quorum c.args.shelf) c.open_log.new.found (visit g.S.LogShelf.kept g.S.LogShelf.trace c.args.shelf s)) (sym c.into_shelf-shelf.ensures)
    (part_as (log_key_of c.args.keys.signer) (g.S.LogShelf.quorum c.open_log.new.shelf) (g.S.LogShelf.quorum c.args.shelf) c.open_log.new.found
    (g.S.LogShelf.kept c.open_log.new.shelf) (g.S.LogShelf.kept c.args.shelf) (g.S.LogShelf.kept c.show_first.new.self.shelf)
    (g.S.LogShelf.trace c.open_log.new.shelf) (g.S.LogShelf.trace c.args.shelf) (g.S.LogShelf.trace c.show_first.new.self.shelf)
    c.open_log.ensures.quorum c.open_log.ensures.left.0 c.open_log.ensures.left.1
    (serves_part (log_key_of c.show_first.new.self.key) (g.S.LogShelf.quorum c.show_first.new.self.shelf) _ c.open_log.new.found (g.S.LogShelf.kept c.show_first.new.self.began.value) (g.S.LogShelf.kept c.show_first.new.self.shelf)
    (g.S.LogShelf.trace c.show_first.new.self.began.value) (g.S.LogShelf.trace c.show_first.new.self.shelf) c.show_first.new.self.was.value c.show_first.new.self.ledger (g.S.LogShelf.place c.show_first.new.self.shelf) c.show_first.new.self.intake c.show_first.new.self.is_due
    (record { key = log_key_of c.args.keys.signer; kept = g.S.LogShelf.kept c.open_log.new.shelf; saw = g.S.LogShelf.trace c.open_log.new.shelf; was = c.in-Ok.opened.log.ledger; place = g.S.LogShelf.place c.open_log.new.shelf; quorum = g.S.LogShelf.quorum c.open_log.new.shelf })
    (c.show_first.ensures.begun ∙ c.new-log.ensures.begun) c.in-Ok.ensures.opens c.show_first.ensures.holds)))

pub serve_published-running-requires-clause-senders : goal.serve_published-running-requires-clause-senders
serve_published-running-requires-clause-senders g c κs within =
    senders_stay (λ l. l.submitter) c.in-Ok.opened.lanes.items c.in-Ok.opened.intake.log c.show_first.new.self.intake.log c.in-Ok.ensures.lanes
    (c.show_first.ensures.rings ∙ ap rings_of c.new-log.ensures.log)

pub returns-clause-serves : goal.returns-clause-serves
returns-clause-serves g c =
    subst (λ s. ServesUnder (log_key_of c.args.keys.signer) (g.S.LogShelf.quorum c.args.shelf) c.open_log.new.found (visit g.S.LogShelf.kept g.S.LogShelf.trace c.args.shelf s) c.close-outcome.result) (sym c.into_shelf-shelf-2.ensures)
    (under_as (log_key_of c.args.keys.signer) (g.S.LogShelf.quorum c.open_log.new.shelf) (g.S.LogShelf.quorum c.args.shelf) c.open_log.new.found
    (g.S.LogShelf.kept c.open_log.new.shelf) (g.S.LogShelf.kept c.args.shelf) (g.S.LogShelf.kept c.serve_published-running.result.running.log.shelf)
    (g.S.LogShelf.trace c.open_log.new.shelf) (g.S.LogShelf.trace c.args.shelf) (g.S.LogShelf.trace c.serve_published-running.result.running.log.shelf)
    c.open_log.ensures.quorum c.open_log.ensures.left.0 c.open_log.ensures.left.1 c.close-outcome.result
    (serves_under (log_key_of c.serve_published-running.result.running.log.key) (g.S.LogShelf.quorum c.serve_published-running.result.running.log.shelf) _ c.open_log.new.found (g.S.LogShelf.kept c.serve_published-running.result.running.log.began.value) (g.S.LogShelf.kept c.serve_published-running.result.running.log.shelf)
    (g.S.LogShelf.trace c.serve_published-running.result.running.log.began.value) (g.S.LogShelf.trace c.serve_published-running.result.running.log.shelf) c.serve_published-running.result.running.log.was.value c.serve_published-running.result.running.log.ledger (g.S.LogShelf.place c.serve_published-running.result.running.log.shelf) c.serve_published-running.result.running.log.intake c.serve_published-running.result.running.log.is_due
    (record { key = log_key_of c.args.keys.signer; kept = g.S.LogShelf.kept c.open_log.new.shelf; saw = g.S.LogShelf.trace c.open_log.new.shelf; was = c.in-Ok.opened.log.ledger; place = g.S.LogShelf.place c.open_log.new.shelf; quorum = g.S.LogShelf.quorum c.open_log.new.shelf })
    (c.serve_published-running.ensures.begun ∙ c.show_first.ensures.begun ∙ c.new-log.ensures.begun) c.in-Ok.ensures.opens c.serve_published-running.ensures.holds
    c.close-outcome.result c.close-outcome.ensures))

pub returns-in-Err-show_first-clause-place : goal.returns-in-Err-show_first-clause-place
returns-in-Err-show_first-clause-place g c =
    ap g.S.LogShelf.place c.into_shelf-shelf.ensures
    ∙ (ap (λ (x : Begun). x.place) (begun_one _ _ (c.show_first.ensures.begun ∙ c.new-log.ensures.begun)) ∙ c.open_log.ensures.place)

pub returns-clause-place : goal.returns-clause-place
returns-clause-place g c =
    ap g.S.LogShelf.place c.into_shelf-shelf-2.ensures
    ∙ (ap (λ (x : Begun). x.place) (begun_one _ _ (c.serve_published-running.ensures.begun ∙ c.show_first.ensures.begun ∙ c.new-log.ensures.begun)) ∙ c.open_log.ensures.place)
