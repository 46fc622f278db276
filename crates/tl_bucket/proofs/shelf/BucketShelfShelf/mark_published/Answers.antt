use Rattle.std.proofs.Common.{ap}
use Rattle.tl_folder.proofs.Calls.{now_marked, each_now}
use Rattle.tl_bucket.specs.Buckets.{Bucketed}
use Rattle.tl_bucket.proofs.shelf.BucketShelfShelf.mark_published.Goals as goal

pub returns-clause-kept : goal.returns-clause-kept
returns-clause-kept g c = now_marked g.D.CrashOutcome.reached _ _ _ _ _ (ap (λ (b : Bucketed). b.events) c.self.view_is) c.note.ensures

pub returns-clause-trace : goal.returns-clause-trace
returns-clause-trace g c = each_now g.D.CrashOutcome.reached _ _ _ _ _ (ap (λ (b : Bucketed). b.events) c.self.view_is) c.note.ensures
