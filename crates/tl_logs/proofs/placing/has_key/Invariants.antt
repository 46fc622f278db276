use Rattle.std.proofs.Common.{map, take}
use Rattle.tl_logs.specs.LogsFile.{IsAmong, key_name}
use Rattle.tl_logs.proofs.placing.has_key.Given as goal

-- none of the keys so far is the key
abbrev pub invariant-loop-i : goal.invariant-loop-i
invariant-loop-i g l = ¬ (IsAmong (key_name l.key) (map key_name (take l.i l.keys)))
