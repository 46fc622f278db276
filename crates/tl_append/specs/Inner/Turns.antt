-- Appending one batch.
use Rattle.std.specs.Prelude.{◌≡◌, List, [], ◌∷◌, ◌++◌}
use Rattle.sha2.specs.Sha256.{sha256}
use Rattle.tl_hash.specs.Bytes.{Bytes}
use Rattle.tl_log.specs.Histories.{Prefix}
use Rattle.tl_ledger.specs.Standing.{Ledger, IsStanding}
use Rattle.tl_ledger.specs.Keeping.{IsKeeping}
use Rattle.tl_ledger.specs.Spent.{IsShown}
use Rattle.tl_run.specs.Signing.{LogKey, checkpoint_note}
use Rattle.tl_append.specs.Appending.{Course, published_after}
use Rattle.tl_append.specs.Cosigning.{HasCosigned, Quorum, ShowsThen, Turn, shown_after}

-- the checkpoint that is there is that of the log with the batch behind it
abbrev pub HasShown : LogKey → List Bytes → Course → Type 0
HasShown key batch c =
    (history : List Prefix) (log : List Bytes) → IsKeeping sha256 history log c.before c.was
    → IsShown sha256 (history ++ published_after key log (batch ∷ [])) c.is.edge.size c.after.held

-- a batch with lines of witnesses
abbrev pub turn : List Bytes → Bytes → Turn
turn batch lines = record { batch = batch; lines = lines }

-- the note of the checkpoint of the log at which the ledger stands, by the log's key, with some lines behind it
pub record IsNoteOf (key : LogKey) (ledger : Ledger) (text : Bytes) : Type 0 where
  pub lines : Bytes
  pub noted : (log : List Bytes) → IsStanding sha256 log ledger → text ≡ checkpoint_note key log ++ lines

-- a batch was shown with some lines, and the checkpoint that is there is that of the log with it
pub record SealsBatch (key : LogKey) (q : Quorum) (batch : List Bytes) (c : Course) : Type 0 where
  pub lines : Bytes
  pub shows : ShowsThen key q (turn batch lines ∷ []) [] c
  pub there : (history : List Prefix) (log : List Bytes) → IsKeeping sha256 history log c.before c.was
      → IsShown sha256 (history ++ shown_after key log (turn batch lines ∷ [])) c.is.edge.size c.after.held
  pub cosigned : HasCosigned key q batch c
