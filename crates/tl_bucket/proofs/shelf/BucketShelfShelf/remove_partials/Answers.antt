use Rattle.std.proofs.Common.{ap, arith}
use Rattle.std.proofs.lemmas.Grind.{common_steps}
use Rattle.tl_folder.proofs.Calls.{now_unremoved, each_now}
use Rattle.tl_bucket.specs.Buckets.{Bucketed}
use Rattle.tl_bucket.proofs.shelf.BucketShelfShelf.remove_partials.Goals as goal

pub returns-clause-removed : goal.returns-clause-removed
returns-clause-removed g c = now_unremoved g.D.CrashOutcome.reached _ _ _ c.args.full.now _ _ (ap (λ (b : Bucketed). b.events) c.self.view_is) c.note.ensures

pub returns-clause-trace : goal.returns-clause-trace
returns-clause-trace g c = each_now g.D.CrashOutcome.reached _ _ _ _ _ (ap (λ (b : Bucketed). b.events) c.self.view_is) c.note.ensures

pub returns-clause-failed : goal.returns-clause-failed
returns-clause-failed g c = grind (arith, common_steps)
