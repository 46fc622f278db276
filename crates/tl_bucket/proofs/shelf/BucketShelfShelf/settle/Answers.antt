use Rattle.std.proofs.Common.{ap, arith}
use Rattle.std.proofs.lemmas.Grind.{common_steps}
use Rattle.tl_folder.proofs.Calls.{now_settled, now_cut, each_now}
use Rattle.tl_bucket.specs.Buckets.{Bucketed}
use Rattle.tl_bucket.proofs.shelf.BucketShelfShelf.settle.Goals as goal

pub returns-in-Ok-clause-unstaged : goal.returns-in-Ok-clause-unstaged
returns-in-Ok-clause-unstaged g c = (now_settled g.D.CrashOutcome.reached _ _ _ _ _ (ap (λ (b : Bucketed). b.events) c.self.view_is) c.note.ensures).unstages

pub returns-in-Ok-clause-settled : goal.returns-in-Ok-clause-settled
returns-in-Ok-clause-settled g c = now_settled g.D.CrashOutcome.reached _ _ _ _ _ (ap (λ (b : Bucketed). b.events) c.self.view_is) c.note.ensures

pub returns-in-Ok-clause-trace : goal.returns-in-Ok-clause-trace
returns-in-Ok-clause-trace g c = each_now g.D.CrashOutcome.reached _ _ _ _ _ (ap (λ (b : Bucketed). b.events) c.self.view_is) c.note.ensures

pub returns-in-Err-clause-unstaged : goal.returns-in-Err-clause-unstaged
returns-in-Err-clause-unstaged g c = now_cut g.D.CrashOutcome.reached _ _ _ _ _ (ap (λ (b : Bucketed). b.events) c.self.view_is) c.note-in-Err.ensures

pub returns-in-Err-clause-trace : goal.returns-in-Err-clause-trace
returns-in-Err-clause-trace g c = each_now g.D.CrashOutcome.reached _ _ _ _ _ (ap (λ (b : Bucketed). b.events) c.self.view_is) c.note-in-Err.ensures

pub returns-in-Err-clause-failed : goal.returns-in-Err-clause-failed
returns-in-Err-clause-failed g c = grind (arith, common_steps)

pub returns-in-Ok-clause-there : goal.returns-in-Ok-clause-there
returns-in-Ok-clause-there g c = grind (arith, common_steps)
