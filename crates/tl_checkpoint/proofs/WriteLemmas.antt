-- What writing a checkpoint answers, by what was found of its parts.
use Rattle.std.proofs.Common.{◌≡◌, ◌^◌, ◌<◌, List, All, Ok, Err, Result, sym, subst}
use Rattle.std.specs.Prelude.{IsErrAnd, String}
use Rattle.tl_hash.specs.Bytes.{Bytes, IsHash}
use Rattle.tl_text.specs.Text.{IsOneLine}
use Rattle.tl_checkpoint.specs.declared.checkpoint.CheckpointFault.{CheckpointFault}
use Rattle.tl_checkpoint.specs.declared.checkpoint.CheckpointFault.TheVariants.{OutOfMemory}
use Rattle.tl_checkpoint.specs.Checkpoint.{Head, IsHead}
use Rattle.tl_checkpoint.specs.WriteCheckpoint.{WritesCheckpoint}

-- what was found of the extensions and the origin holds of the checkpoint's
pub is_head : (h : Head) (texts : List Bytes) (origin : Bytes)
    → texts ≡ h.extensions → origin ≡ h.origin
    → All IsOneLine texts → IsOneLine origin → h.size < 2 ^ 63 → IsHash h.root → IsHead h
is_head h texts origin extensions named each one small hash = record {
  origin = subst IsOneLine named one;
  size = small;
  root = hash;
  extensions = subst (All IsOneLine) extensions each;
}

-- memory runs out, once the checkpoint is known to have a text
pub writes_refused : {A : Type 0} → (h : Head) (r : Result (String A) CheckpointFault)
    → IsErrAnd r (λ e. e ≡ OutOfMemory) → IsHead h → WritesCheckpoint h r
writes_refused h (Ok text) same is = absurd same
writes_refused {A = A} h (Err fault) same is =
    subst (λ (f : CheckpointFault). WritesCheckpoint {A = A} h (Err f)) (sym same) is
