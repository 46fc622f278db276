-- A file that was written beside its place.
use Rattle.std.specs.Prelude.{string_bytes}
use Rattle.tl_folder.specs.declared.staged.Staged.{Staged}
use Rattle.tl_folder.specs.Settling.{Move}

-- its path beside the place, and the place
abbrev pub move_of : Staged → Move
move_of staged = (string_bytes staged.beside, string_bytes staged.place)
