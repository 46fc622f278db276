use Rattle.std.proofs.Common.{◌≡◌, ◌++◌, map, take, string_bytes}
use Rattle.tl_folder.specs.FileCalls.{done}
use Rattle.tl_folder.specs.Settling.{naming}
use Rattle.tl_folder.proofs.staged.sync_folders.Given as goal

abbrev pub invariant-loop-folder : goal.invariant-loop-folder
invariant-loop-folder g l = l.calls ≡ l.fn.calls ++ done (map (λ folder. naming (string_bytes folder)) (take l.folder-index l.folders))
