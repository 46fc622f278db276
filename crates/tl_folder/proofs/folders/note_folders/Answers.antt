use Rattle.std.proofs.Common.{◌≡◌, Some, arith}
use Rattle.std.proofs.lemmas.Grind.{common_steps}
use Rattle.std.specs.Path.{path_parent}
use Rattle.tl_folder.proofs.Above.{fewer_above}
use Rattle.tl_folder.proofs.folders.note_folders.Goals as goal

pub loop-parent-smaller : goal.loop-parent-smaller
loop-parent-smaller c =
    let above : path_parent c.loop-parent.path.now ≡ Some c.as_str-folder.result.now = cc (c.in-Some.ensures, c.as_str-folder.ensures, c.new.ensures) in
    fewer_above c.loop-parent.path.now c.as_str-folder.result.now above

pub loop-parent-preserved : goal.loop-parent-preserved
loop-parent-preserved c = grind (arith, common_steps)

pub returns-then-folder-root-clause-kept : goal.returns-then-folder-root-clause-kept
returns-then-folder-root-clause-kept c = grind (arith, common_steps)
