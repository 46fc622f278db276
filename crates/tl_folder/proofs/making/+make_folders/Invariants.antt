use Rattle.std.proofs.Common.{length}
use Rattle.std.specs.Path.{path_components}
use Rattle.tl_folder.proofs.making.+make_folders.Given as goal

abbrev pub decreases-make_folders : goal.decreases-make_folders
decreases-make_folders g l = length (path_components l.path.now)
