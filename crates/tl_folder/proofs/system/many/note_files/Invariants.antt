use Rattle.std.proofs.Common.{◌≡◌, ◌++◌, map, take}
use Rattle.tl_folder.specs.FileCalls.{done}
use Rattle.tl_folder.specs.Settling.{syncing}
use Rattle.tl_folder.specs.Inner.Staged.{move_of}
use Rattle.tl_folder.proofs.system.many.note_files.Given as goal

abbrev pub invariant-loop-i : goal.invariant-loop-i
invariant-loop-i l = l.log ≡ l.fn.log ++ done (map (λ file. syncing (move_of file)) (take l.i l.staged))
