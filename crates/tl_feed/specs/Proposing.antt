-- A checkpoint that a log proposes to witnesses (C2SP tlog-checkpoint; signed-note, "Verification").
use Rattle.std.specs.Prelude.{◌≡◌, List}
use Rattle.tl_hash.specs.Bytes.{Bytes}
use Rattle.tl_hash.specs.declared.head.Head.{Head}
use Rattle.tl_note.specs.Key.{Key}
use Rattle.tl_checkpoint.specs.Checkpoint as checkpoint
use Rattle.tl_checkpoint.specs.OpenCheckpoint.{IsSignedCheckpoint}

-- the bytes are a note that opens under these keys, with the checkpoint of the log with this name, size and root
pub record IsSignedBy (origin : Bytes) (keys : List Key) (note : Bytes) (head : Head) : Type 0 where
  pub checkpoint : checkpoint.Head
  pub signed : IsSignedCheckpoint note keys checkpoint
  pub named : checkpoint.origin ≡ origin
  pub size : checkpoint.size ≡ head.size
  pub root : checkpoint.root ≡ head.root
