use Rattle.std.proofs.Common.{◌⊎◌, map, vec_items, string_bytes, IsTrue, length}
use denote.Text.{Utf8}
use denote.Shadow.{shadow}
use Rattle.std.specs.Path.{path_components}
use Rattle.tl_folder.specs.Step.{Path}
use Rattle.tl_folder.specs.Posix.{spelled}
use Rattle.tl_folder.specs.Settling.{IsAbove, has_path}
use Rattle.tl_folder.proofs.folders.note_folders.Given as goal

abbrev pub invariant-loop-parent : goal.invariant-loop-parent
invariant-loop-parent l =
    shadow (Utf8 l.path)
    × ((it : Path) → IsTrue (has_path (map string_bytes (vec_items l.fn.folders)) it) → IsTrue (has_path (map string_bytes (vec_items l.folders)) it))
    × ((folder : Path) → IsAbove l.root l.fn.place folder → IsTrue (has_path (map string_bytes (vec_items l.folders)) (spelled folder)) ⊎ IsAbove l.root l.path folder)

abbrev pub decreases-loop-parent : goal.decreases-loop-parent
decreases-loop-parent l = length (path_components l.path)
