use Rattle.std.proofs.Common.{◌≡◌, ◌++◌, map, take, string_bytes}
use Rattle.tl_folder.specs.FileCalls.{done}
use Rattle.tl_folder.specs.Settling.{naming}
use Rattle.tl_folder.proofs.system.many.note_folders.Given as goal

abbrev pub invariant-loop-i : goal.invariant-loop-i
invariant-loop-i l = l.log ≡ l.fn.log ++ done (map (λ folder. naming (string_bytes folder)) (take l.i l.folders))
