use Rattle.std.specs.Prelude.{◌≡◌}
use Rattle.tl_bucket.proofs.Finishes.{HasFinished, between}
use Rattle.tl_bucket.proofs.shelf.BucketShelf.finish.Given as goal

-- the commits so far are finished
abbrev pub invariant-loop-number : goal.invariant-loop-number
invariant-loop-number g l = record {
  so_far : HasFinished g.D.CrashOutcome.held g.D.CrashOutcome.reached (g.K.LogSigner.log_key l.key) l.client l.initial.number l.number
      (between g.D.CrashOutcome.held g.D.CrashOutcome.reached l.fn.self l.self l.fn.ledger l.ledger);
  place : l.self.place ≡ l.fn.self.place;
}
