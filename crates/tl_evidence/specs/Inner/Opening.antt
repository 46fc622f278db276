-- Whether bytes are a signed checkpoint (C2SP tlog-checkpoint).
use Rattle.std.specs.Prelude.{List, Option, Some, None, Result, Ok, Err}
use Rattle.tl_hash.specs.Bytes.{Bytes}
use Rattle.tl_note.specs.Key.{Key}
use Rattle.tl_checkpoint.specs.Checkpoint.{Head, head_of}
use Rattle.tl_checkpoint.specs.OpenCheckpoint.{IsSignedCheckpoint}
use Rattle.tl_checkpoint.specs.declared.checkpoint.Checkpoint.{Checkpoint}

-- the checkpoint in the bytes, if they are one that opens under these keys
abbrev pub OpensOrNot : {A E : Type 0} → Bytes → List Key → Result (Option (Checkpoint A)) E → Type 0
OpensOrNot bytes keys (Ok (Some c)) = IsSignedCheckpoint bytes keys (head_of c)
OpensOrNot bytes keys (Ok None) = (c : Head) → IsSignedCheckpoint bytes keys c → ⊥
OpensOrNot bytes keys (Err fault) = Unit {0}
