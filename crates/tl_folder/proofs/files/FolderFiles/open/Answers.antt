use Rattle.std.proofs.Common.{arith}
use Rattle.std.proofs.lemmas.Grind.{common_steps}
use Rattle.tl_folder.proofs.files.FolderFiles.open.Goals as goal

pub returns-clause-calls : goal.returns-clause-calls
returns-clause-calls g c = grind (arith, common_steps)

pub returns-clause-unstaged : goal.returns-clause-unstaged
returns-clause-unstaged g c = grind (arith, common_steps)

pub returns-in_err-from_str-clause-calls : goal.returns-in_err-from_str-clause-calls
returns-in_err-from_str-clause-calls g c = grind (arith, common_steps)

pub returns-in_err-from_str-clause-unstaged : goal.returns-in_err-from_str-clause-unstaged
returns-in_err-from_str-clause-unstaged g c = grind (arith, common_steps)

pub returns-in_err-make_folders-clause-calls : goal.returns-in_err-make_folders-clause-calls
returns-in_err-make_folders-clause-calls g c = grind (arith, common_steps)

pub returns-in_err-make_folders-clause-unstaged : goal.returns-in_err-make_folders-clause-unstaged
returns-in_err-make_folders-clause-unstaged g c = grind (arith, common_steps)

pub returns-in_err-metadata-clause-calls : goal.returns-in_err-metadata-clause-calls
returns-in_err-metadata-clause-calls g c = grind (arith, common_steps)

pub returns-in_err-metadata-clause-unstaged : goal.returns-in_err-metadata-clause-unstaged
returns-in_err-metadata-clause-unstaged g c = grind (arith, common_steps)

pub returns-in_err-sync_folder-clause-calls : goal.returns-in_err-sync_folder-clause-calls
returns-in_err-sync_folder-clause-calls g c = grind (arith, common_steps)

pub returns-in_err-sync_folder-clause-unstaged : goal.returns-in_err-sync_folder-clause-unstaged
returns-in_err-sync_folder-clause-unstaged g c = grind (arith, common_steps)

pub returns-in_err-sync_parent-clause-calls : goal.returns-in_err-sync_parent-clause-calls
returns-in_err-sync_parent-clause-calls g c = grind (arith, common_steps)

pub returns-in_err-sync_parent-clause-unstaged : goal.returns-in_err-sync_parent-clause-unstaged
returns-in_err-sync_parent-clause-unstaged g c = grind (arith, common_steps)

pub trim_end_matches-requires : goal.trim_end_matches-requires
trim_end_matches-requires g c = grind (arith, common_steps)
