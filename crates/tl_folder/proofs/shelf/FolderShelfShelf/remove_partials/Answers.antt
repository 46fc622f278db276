use Rattle.std.proofs.Common.{arith}
use Rattle.std.proofs.lemmas.Grind.{common_steps}
use Rattle.tl_folder.proofs.Calls.{now_removed, now_lacks, now_part_removed, now_unremoved, each_now, same_events, removed_calls}
use Rattle.tl_folder.proofs.shelf.FolderShelfShelf.remove_partials.Goals as goal

pub returns-in-Ok-remove-clause-removed : goal.returns-in-Ok-remove-clause-removed
returns-in-Ok-remove-clause-removed g c = now_removed g.D.CrashOutcome.reached _ _ _ _ _ _ (same_events _ _ _ _ _ _ _ _ c.self.view_is) c.note.ensures

pub returns-in-Ok-remove-clause-none : goal.returns-in-Ok-remove-clause-none
returns-in-Ok-remove-clause-none g c = now_lacks g.D.CrashOutcome.reached _ _ _ _ _ _ (same_events _ _ _ _ _ _ _ _ c.self.view_is) c.note.ensures

pub returns-in-Ok-remove-clause-trace : goal.returns-in-Ok-remove-clause-trace
returns-in-Ok-remove-clause-trace g c = each_now g.D.CrashOutcome.reached _ _ _ _ _ (same_events _ _ _ _ _ _ _ _ c.self.view_is) c.note.ensures

pub returns-in-Ok-remove-clause-made : goal.returns-in-Ok-remove-clause-made
returns-in-Ok-remove-clause-made g c = removed_calls _ _ _ _ _ _ _ _ c.args.full.now _ _ _ c.self.view_is c.in-Ok.ensures.partials c.in-Ok.ensures.removed c.in-Ok-remove.ensures.moved

pub returns-in-Ok-clause-removed : goal.returns-in-Ok-clause-removed
returns-in-Ok-clause-removed g c = now_part_removed g.D.CrashOutcome.reached _ _ _ _ _ _ (same_events _ _ _ _ _ _ _ _ c.self.view_is) c.note-in-Err-remove.ensures

pub returns-in-Ok-clause-trace : goal.returns-in-Ok-clause-trace
returns-in-Ok-clause-trace g c = each_now g.D.CrashOutcome.reached _ _ _ _ _ (same_events _ _ _ _ _ _ _ _ c.self.view_is) c.note-in-Err-remove.ensures

pub returns-clause-removed : goal.returns-clause-removed
returns-clause-removed g c = now_unremoved g.D.CrashOutcome.reached _ _ _ c.args.full.now _ _ (same_events _ _ _ _ _ _ _ _ c.self.view_is) c.note-in-Err.ensures

pub returns-clause-trace : goal.returns-clause-trace
returns-clause-trace g c = each_now g.D.CrashOutcome.reached _ _ _ _ _ (same_events _ _ _ _ _ _ _ _ c.self.view_is) c.note-in-Err.ensures

pub returns-clause-failed : goal.returns-clause-failed
returns-clause-failed g c = grind (arith, common_steps)

pub returns-clause-made : goal.returns-clause-made
returns-clause-made g c = grind (arith, common_steps)

pub returns-clause-noted : goal.returns-clause-noted
returns-clause-noted g c = grind (arith, common_steps)

pub returns-in-Ok-clause-failed : goal.returns-in-Ok-clause-failed
returns-in-Ok-clause-failed g c = grind (arith, common_steps)

pub returns-in-Ok-clause-mark : goal.returns-in-Ok-clause-mark
returns-in-Ok-clause-mark g c = grind (arith, common_steps)

pub returns-in-Ok-clause-noted : goal.returns-in-Ok-clause-noted
returns-in-Ok-clause-noted g c = grind (arith, common_steps)

pub returns-in-Ok-clause-root : goal.returns-in-Ok-clause-root
returns-in-Ok-clause-root g c = grind (arith, common_steps)

pub returns-in-Ok-remove-clause-mark : goal.returns-in-Ok-remove-clause-mark
returns-in-Ok-remove-clause-mark g c = grind (arith, common_steps)

pub returns-in-Ok-remove-clause-noted : goal.returns-in-Ok-remove-clause-noted
returns-in-Ok-remove-clause-noted g c = grind (arith, common_steps)

pub returns-in-Ok-remove-clause-root : goal.returns-in-Ok-remove-clause-root
returns-in-Ok-remove-clause-root g c = grind (arith, common_steps)

pub returns-in-Ok-remove-clause-unfailed : goal.returns-in-Ok-remove-clause-unfailed
returns-in-Ok-remove-clause-unfailed g c = grind (arith, common_steps)
