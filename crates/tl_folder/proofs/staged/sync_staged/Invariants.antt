use Rattle.std.proofs.Common.{◌≡◌, ◌++◌, map, take}
use Rattle.tl_folder.specs.FileCalls.{done}
use Rattle.tl_folder.specs.Settling.{syncing}
use Rattle.tl_folder.specs.Inner.Staged.{move_of}
use Rattle.tl_folder.proofs.staged.sync_staged.Given as goal

abbrev pub invariant-loop-file : goal.invariant-loop-file
invariant-loop-file g l = l.calls ≡ l.fn.calls ++ done (map (λ file. syncing (move_of file)) (take l.file-index l.staged))
