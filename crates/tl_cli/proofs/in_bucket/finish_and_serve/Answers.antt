use Rattle.std.proofs.Common.{Ok, inl, inr, rules, subst, ◌∙◌}
use Rattle.tl_bucket.specs.Finishing.{FinishesLog}
use Rattle.tl_hash.specs.Bytes.{Bytes}
use Rattle.tl_cli.proofs.Buckets.{refused}
use Rattle.tl_cli.proofs.in_bucket.finish_and_serve.Goals as goal

pub returns-in-Err : goal.returns-in-Err
returns-in-Err g c = inl (refused c.in-Err.fault c.after_bucket.result c.after_bucket.ensures, search rules)

pub returns : goal.returns
returns g c = inr (record {
  before = c.finish_log.new.shelf;
  finished = subst (λ (name : Bytes). FinishesLog g.D.CrashOutcome.held g.D.CrashOutcome.reached c.args.options.now.key name c.args.shelf c.finish_log.new.shelf (Ok tt)) c.as_str-origin.ensures.value c.in-Ok.ensures.finishes;
  after = c.serve_sealed-shelf.result.shelf;
  place = c.serve_sealed-shelf.ensures.place ∙ c.finish_log.ensures.place;
  found = c.serve_sealed-shelf.new.found;
  outcome = c.serve_sealed-shelf.result.outcome;
  start = c.serve_sealed-shelf.ensures.start;
  begins = c.serve_sealed-shelf.ensures.begins;
  serves = c.serve_sealed-shelf.ensures.serves;
  ends = c.after_bucket-2.ensures;
})
