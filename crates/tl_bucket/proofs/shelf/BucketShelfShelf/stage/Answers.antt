use Rattle.std.proofs.Common.{ap, arith}
use Rattle.std.proofs.lemmas.Grind.{common_steps}
use Rattle.tl_folder.proofs.Calls.{now_staged, now_failed, each_now}
use Rattle.tl_bucket.specs.Buckets.{Bucketed}
use Rattle.tl_bucket.proofs.shelf.BucketShelfShelf.stage.Goals as goal

pub returns-in-Ok-clause-staged : goal.returns-in-Ok-clause-staged
returns-in-Ok-clause-staged g c = now_staged g.D.CrashOutcome.reached _ _ _ _ _ _ (ap (λ (b : Bucketed). b.events) c.self.view_is) c.note.ensures

pub returns-in-Ok-clause-trace : goal.returns-in-Ok-clause-trace
returns-in-Ok-clause-trace g c = each_now g.D.CrashOutcome.reached _ _ _ _ _ (ap (λ (b : Bucketed). b.events) c.self.view_is) c.note.ensures

pub returns-in-Err-clause-unstaged : goal.returns-in-Err-clause-unstaged
returns-in-Err-clause-unstaged g c = now_failed g.D.CrashOutcome.reached _ _ _ _ _ (ap (λ (b : Bucketed). b.events) c.self.view_is) c.note-in-Err.ensures

pub returns-in-Err-clause-trace : goal.returns-in-Err-clause-trace
returns-in-Err-clause-trace g c = each_now g.D.CrashOutcome.reached _ _ _ _ _ (ap (λ (b : Bucketed). b.events) c.self.view_is) c.note-in-Err.ensures

pub returns-in-Err-clause-failed : goal.returns-in-Err-clause-failed
returns-in-Err-clause-failed g c = grind (arith, common_steps)

pub returns-in-Ok-clause-keeps : goal.returns-in-Ok-clause-keeps
returns-in-Ok-clause-keeps g c = grind (arith, common_steps)
