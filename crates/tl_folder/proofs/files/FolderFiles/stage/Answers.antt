use Rattle.std.proofs.Common.{string_bytes, arith}
use Rattle.std.proofs.lemmas.Grind.{common_steps}
use Rattle.tl_folder.specs.Inner.Staged.{move_of}
use Rattle.tl_folder.proofs.Above.{staged_covered}
use Rattle.tl_folder.proofs.files.FolderFiles.stage.Goals as goal

pub invariant_of-self-2 : goal.invariant_of-self-2
invariant_of-self-2 g c =
    record {
      covered =
          staged_covered move_of string_bytes _ _ _ _ _ _ _ _ _ c.reserve.ensures.items c.push_reserved.ensures.items c.as_str-2.ensures.value c.as_str-3.ensures.value
          c.in_ok-note_folders.ensures.kept c.in_ok-note_folders.ensures.covered c.args.self.now.covered;
    }

pub invariant_of-self : goal.invariant_of-self
invariant_of-self g c = grind (arith, common_steps)

pub invariant_of-self-in-Break-branch-5 : goal.invariant_of-self-in-Break-branch-5
invariant_of-self-in-Break-branch-5 g c = grind (arith, common_steps)

pub invariant_of-self-in-Break-branch-6 : goal.invariant_of-self-in-Break-branch-6
invariant_of-self-in-Break-branch-6 g c = grind (arith, common_steps)

pub returns-clause-calls : goal.returns-clause-calls
returns-clause-calls g c = grind (arith, common_steps)

pub returns-clause-root : goal.returns-clause-root
returns-clause-root g c = grind (arith, common_steps)

pub returns-clause-staged : goal.returns-clause-staged
returns-clause-staged g c = grind (arith, common_steps)

pub returns-clause-unstaged : goal.returns-clause-unstaged
returns-clause-unstaged g c = grind (arith, common_steps)

pub returns-in_err-beside-clause-calls : goal.returns-in_err-beside-clause-calls
returns-in_err-beside-clause-calls g c = grind (arith, common_steps)

pub returns-in_err-check_folder-clause-calls : goal.returns-in_err-check_folder-clause-calls
returns-in_err-check_folder-clause-calls g c = grind (arith, common_steps)

pub returns-in_err-note_folders-clause-calls : goal.returns-in_err-note_folders-clause-calls
returns-in_err-note_folders-clause-calls g c = grind (arith, common_steps)

pub returns-in_err-note_folders-clause-root : goal.returns-in_err-note_folders-clause-root
returns-in_err-note_folders-clause-root g c = grind (arith, common_steps)

pub returns-in_err-place-clause-calls : goal.returns-in_err-place-clause-calls
returns-in_err-place-clause-calls g c = grind (arith, common_steps)

pub returns-in_err-reserve-clause-calls : goal.returns-in_err-reserve-clause-calls
returns-in_err-reserve-clause-calls g c = grind (arith, common_steps)

pub returns-in_err-reserve-clause-root : goal.returns-in_err-reserve-clause-root
returns-in_err-reserve-clause-root g c = grind (arith, common_steps)

pub returns-in_err-write_in_folder-clause-calls : goal.returns-in_err-write_in_folder-clause-calls
returns-in_err-write_in_folder-clause-calls g c = grind (arith, common_steps)

pub returns-in_err-write_in_folder-clause-root : goal.returns-in_err-write_in_folder-clause-root
returns-in_err-write_in_folder-clause-root g c = grind (arith, common_steps)
