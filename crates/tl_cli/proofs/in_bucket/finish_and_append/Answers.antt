use Rattle.std.proofs.Common.{Ok, inl, inr, rules, subst, ◌∙◌}
use Rattle.tl_bucket.specs.Finishing.{FinishesLog}
use Rattle.tl_hash.specs.Bytes.{Bytes}
use Rattle.tl_ledger.specs.Opening.{found_size}
use Rattle.tl_cli.proofs.Buckets.{refused, started}
use Rattle.tl_cli.proofs.in_bucket.finish_and_append.Goals as goal

pub returns-in-Err : goal.returns-in-Err
returns-in-Err g c = inl (refused c.in-Err.fault c.after_bucket.result c.after_bucket.ensures, search rules)

pub returns : goal.returns
returns g c = inr (record {
  before = c.finish_log.new.shelf;
  finished = subst (λ (name : Bytes). FinishesLog g.D.CrashOutcome.held g.D.CrashOutcome.reached c.args.options.now.key name c.args.shelf c.finish_log.new.shelf (Ok tt)) c.as_str-origin.ensures.value c.in-Ok.ensures.finishes;
  after = c.run_append-outcome.new.shelf;
  place = c.run_append-outcome.ensures.place ∙ c.finish_log.ensures.place;
  found = c.run_append-outcome.new.found;
  outcome = c.run_append-outcome.result;
  start = started _ (found_size c.run_append-outcome.new.found.head) c.committed.result c.finish_log.new.shelf.objects.claims.start c.committed.ensures c.run_append-outcome.ensures.start;
  goes_on = c.run_append-outcome.ensures.goes_on;
  begins = c.run_append-outcome.ensures.fresh;
  ends = c.after_bucket-2.ensures;
})
