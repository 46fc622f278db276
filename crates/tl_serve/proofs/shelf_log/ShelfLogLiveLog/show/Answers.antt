use Rattle.std.proofs.Common.{List, Some, false, ap, arith, length, subst, sym, vec_items, ◌∙◌}
use Rattle.std.proofs.lemmas.Grind.{common_steps}
use Rattle.std.proofs.lemmas.List.{length-map}
use Rattle.tl_hash.specs.Bytes.{Bytes}
use Rattle.tl_sequencer.specs.Log.{rings_of}
use Rattle.tl_append.specs.Cosigning.{Quorum, ShowsAtMost, ShowsBatch}
use Rattle.tl_serve.specs.Inner.Shelved.{IsServing}
use Rattle.tl_append.specs.Keys.{log_key_of}
use Rattle.tl_append.proofs.Turns.{along}
use Rattle.tl_serve.proofs.Shelves.{serving_failed, serving_shown}
use Rattle.tl_serve.proofs.shelf_log.ShelfLogLiveLog.show.Goals as goal

pub returns-in-Ok-clause-kept : goal.returns-in-Ok-clause-kept
returns-in-Ok-clause-kept g c = record {
  holds =
      subst (λ (q : Quorum). IsServing (log_key_of c.args.self.now.key) q
      (along (g.S.LogShelf.kept c.args.self.now.began.value) (g.S.LogShelf.kept c.append-outcome.new.self) (g.S.LogShelf.trace c.args.self.now.began.value) (g.S.LogShelf.trace c.append-outcome.new.self) c.args.self.now.was.value c.append-outcome.new.ledger) c.drain_if_grown.new.intake false)
      (sym c.append-outcome.ensures.quorum)
      (serving_shown (log_key_of c.args.self.now.key) (g.S.LogShelf.quorum c.args.self.now.shelf) (g.S.LogShelf.kept c.args.self.now.began.value) (g.S.LogShelf.kept c.args.self.now.shelf) (g.S.LogShelf.kept c.append-outcome.new.self)
      (g.S.LogShelf.trace c.args.self.now.began.value) (g.S.LogShelf.trace c.args.self.now.shelf) (g.S.LogShelf.trace c.append-outcome.new.self)
      c.args.self.now.was.value c.args.self.now.ledger c.append-outcome.new.ledger c.args.self.now.intake c.drain_if_grown.new.intake c.args.self.now.is_due
      c.size-size.result c.size.result c.requires
      (record { parts = c.waiting-waiting.ensures.parts; old = c.size-size.ensures; new = c.size.ensures; gone = c.drain_if_grown.ensures.gone; left = c.drain_if_grown.ensures.left })
      (omega (arith, c.in-Ok.ensures.sized, length-map c.waiting-waiting.result.now vec_items, ap length c.waiting-waiting.ensures.waiting))
      (subst (λ (w : List Bytes). ShowsBatch (log_key_of c.args.self.now.key) (g.S.LogShelf.quorum c.args.self.now.shelf) w
      (along (g.S.LogShelf.kept c.args.self.now.shelf) (g.S.LogShelf.kept c.append-outcome.new.self) (g.S.LogShelf.trace c.args.self.now.shelf) (g.S.LogShelf.trace c.append-outcome.new.self) c.args.self.now.ledger c.append-outcome.new.ledger))
      c.waiting-waiting.ensures.waiting c.in-Ok.ensures.all));
  rings = ap rings_of c.drain_if_grown.ensures.log;
  begun =
      ap (λ (p : Bytes). Some (record {
        key = log_key_of c.args.self.now.key;
        kept = g.S.LogShelf.kept c.args.self.now.began.value;
        saw = g.S.LogShelf.trace c.args.self.now.began.value;
        was = c.args.self.now.was.value;
        place = p;
        quorum = g.S.LogShelf.quorum c.append-outcome.new.self;
      })) c.append-outcome.ensures.place
      ∙ ap (λ (q : Quorum). Some (record {
        key = log_key_of c.args.self.now.key;
        kept = g.S.LogShelf.kept c.args.self.now.began.value;
        saw = g.S.LogShelf.trace c.args.self.now.began.value;
        was = c.args.self.now.was.value;
        place = g.S.LogShelf.place c.args.self.now.shelf;
        quorum = q;
      })) c.append-outcome.ensures.quorum;
}

pub returns-in-Err-clause-kept : goal.returns-in-Err-clause-kept
returns-in-Err-clause-kept g c = record {
  holds =
      subst (λ (q : Quorum). IsServing (log_key_of c.args.self.now.key) q
      (along (g.S.LogShelf.kept c.args.self.now.began.value) (g.S.LogShelf.kept c.append-outcome.new.self) (g.S.LogShelf.trace c.args.self.now.began.value) (g.S.LogShelf.trace c.append-outcome.new.self) c.args.self.now.was.value c.append-outcome.new.ledger) c.drain_if_grown.new.intake c.args.self.now.is_due)
      (sym c.append-outcome.ensures.quorum)
      (serving_failed (log_key_of c.args.self.now.key) (g.S.LogShelf.quorum c.args.self.now.shelf) (g.S.LogShelf.kept c.args.self.now.began.value) (g.S.LogShelf.kept c.args.self.now.shelf) (g.S.LogShelf.kept c.append-outcome.new.self)
      (g.S.LogShelf.trace c.args.self.now.began.value) (g.S.LogShelf.trace c.args.self.now.shelf) (g.S.LogShelf.trace c.append-outcome.new.self)
      c.args.self.now.was.value c.args.self.now.ledger c.append-outcome.new.ledger c.args.self.now.intake c.drain_if_grown.new.intake c.args.self.now.is_due
      c.size-size.result c.size.result c.requires
      (record { parts = c.waiting-waiting.ensures.parts; old = c.size-size.ensures; new = c.size.ensures; gone = c.drain_if_grown.ensures.gone; left = c.drain_if_grown.ensures.left })
      (subst (λ (w : List Bytes). ShowsAtMost (log_key_of c.args.self.now.key) (g.S.LogShelf.quorum c.args.self.now.shelf) w
      (along (g.S.LogShelf.kept c.args.self.now.shelf) (g.S.LogShelf.kept c.append-outcome.new.self) (g.S.LogShelf.trace c.args.self.now.shelf) (g.S.LogShelf.trace c.append-outcome.new.self) c.args.self.now.ledger c.append-outcome.new.ledger))
      c.waiting-waiting.ensures.waiting c.in-Err.ensures.part)
      c.if-not-self.false);
  rings = ap rings_of c.drain_if_grown.ensures.log;
  begun =
      ap (λ (p : Bytes). Some (record {
        key = log_key_of c.args.self.now.key;
        kept = g.S.LogShelf.kept c.args.self.now.began.value;
        saw = g.S.LogShelf.trace c.args.self.now.began.value;
        was = c.args.self.now.was.value;
        place = p;
        quorum = g.S.LogShelf.quorum c.append-outcome.new.self;
      })) c.append-outcome.ensures.place
      ∙ ap (λ (q : Quorum). Some (record {
        key = log_key_of c.args.self.now.key;
        kept = g.S.LogShelf.kept c.args.self.now.began.value;
        saw = g.S.LogShelf.trace c.args.self.now.began.value;
        was = c.args.self.now.was.value;
        place = g.S.LogShelf.place c.args.self.now.shelf;
        quorum = q;
      })) c.append-outcome.ensures.quorum;
}

pub returns-in-Err-clause-shown : goal.returns-in-Err-clause-shown
returns-in-Err-clause-shown g c = grind (arith, common_steps)

pub returns-in-Ok-clause-shown : goal.returns-in-Ok-clause-shown
returns-in-Ok-clause-shown g c = grind (arith, common_steps)
