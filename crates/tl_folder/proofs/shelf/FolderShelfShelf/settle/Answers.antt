use Rattle.std.proofs.Common.{arith}
use Rattle.std.proofs.lemmas.Grind.{common_steps}
use Rattle.tl_folder.proofs.Calls.{now_settled, now_cut, each_now, same_events, settled_calls, cut_calls}
use Rattle.tl_folder.proofs.shelf.FolderShelfShelf.settle.Goals as goal

pub returns-in-Ok-clause-unstaged : goal.returns-in-Ok-clause-unstaged
returns-in-Ok-clause-unstaged g c = (now_settled g.D.CrashOutcome.reached _ _ _ _ _ (same_events _ _ _ _ _ _ _ _ c.self.view_is) c.note.ensures).unstages

pub returns-in-Ok-clause-settled : goal.returns-in-Ok-clause-settled
returns-in-Ok-clause-settled g c = now_settled g.D.CrashOutcome.reached _ _ _ _ _ (same_events _ _ _ _ _ _ _ _ c.self.view_is) c.note.ensures

pub returns-in-Ok-clause-trace : goal.returns-in-Ok-clause-trace
returns-in-Ok-clause-trace g c = each_now g.D.CrashOutcome.reached _ _ _ _ _ (same_events _ _ _ _ _ _ _ _ c.self.view_is) c.note.ensures

pub returns-in-Err-clause-unstaged : goal.returns-in-Err-clause-unstaged
returns-in-Err-clause-unstaged g c = now_cut g.D.CrashOutcome.reached _ _ _ _ _ (same_events _ _ _ _ _ _ _ _ c.self.view_is) c.note-in-Err.ensures

pub returns-in-Err-clause-trace : goal.returns-in-Err-clause-trace
returns-in-Err-clause-trace g c = each_now g.D.CrashOutcome.reached _ _ _ _ _ (same_events _ _ _ _ _ _ _ _ c.self.view_is) c.note-in-Err.ensures

pub returns-in-Ok-clause-made : goal.returns-in-Ok-clause-made
returns-in-Ok-clause-made g c = settled_calls _ _ _ _ _ _ _ _ _ _ c.self.view_is c.in-Ok.ensures.covered c.in-Ok.ensures.calls

pub returns-in-Err-clause-made : goal.returns-in-Err-clause-made
returns-in-Err-clause-made g c = cut_calls _ _ _ _ _ _ _ _ _ _ c.self.view_is c.in-Err.ensures.covered c.in-Err.ensures.calls

pub returns-in-Err-clause-failed : goal.returns-in-Err-clause-failed
returns-in-Err-clause-failed g c = grind (arith, common_steps)

pub returns-in-Ok-clause-unfailed : goal.returns-in-Ok-clause-unfailed
returns-in-Ok-clause-unfailed g c = grind (arith, common_steps)
