use Rattle.std.proofs.Common.{arith}
use Rattle.std.proofs.lemmas.Grind.{common_steps}
use Rattle.tl_folder.proofs.Calls.{now_staged, now_failed, each_now, same_events}
use Rattle.tl_folder.proofs.shelf.FolderShelfShelf.stage.Goals as goal

pub returns-in-Ok-clause-staged : goal.returns-in-Ok-clause-staged
returns-in-Ok-clause-staged g c = now_staged g.D.CrashOutcome.reached _ _ _ _ _ _ (same_events _ _ _ _ _ _ _ _ c.self.view_is) c.note.ensures

pub returns-in-Ok-clause-trace : goal.returns-in-Ok-clause-trace
returns-in-Ok-clause-trace g c = each_now g.D.CrashOutcome.reached _ _ _ _ _ (same_events _ _ _ _ _ _ _ _ c.self.view_is) c.note.ensures

pub returns-in-Err-clause-unstaged : goal.returns-in-Err-clause-unstaged
returns-in-Err-clause-unstaged g c = now_failed g.D.CrashOutcome.reached _ _ _ _ _ (same_events _ _ _ _ _ _ _ _ c.self.view_is) c.note-in-Err.ensures

pub returns-in-Err-clause-trace : goal.returns-in-Err-clause-trace
returns-in-Err-clause-trace g c = each_now g.D.CrashOutcome.reached _ _ _ _ _ (same_events _ _ _ _ _ _ _ _ c.self.view_is) c.note-in-Err.ensures

pub returns-in-Err-clause-failed : goal.returns-in-Err-clause-failed
returns-in-Err-clause-failed g c = grind (arith, common_steps)

pub returns-in-Ok-clause-unfailed : goal.returns-in-Ok-clause-unfailed
returns-in-Ok-clause-unfailed g c = grind (arith, common_steps)
