-- Removing spent partial tiles and bundles.
use Rattle.std.specs.Prelude.{ℕ, List}
use Rattle.sha2.specs.Sha256.{sha256}
use Rattle.tl_hash.specs.Bytes.{Bytes}
use Rattle.tl_log.specs.Histories.{Prefix}
use Rattle.tl_archive.specs.Shelves.{Kept}
use Rattle.tl_archive.specs.Complete.{KeptSafe}
use Rattle.tl_ledger.specs.Standing.{Ledger}
use Rattle.tl_ledger.specs.Keeping.{IsKeeping}
use Rattle.tl_ledger.specs.Spent.{IsShown, RemovesSpent}

-- some spent partial tiles and bundles may be gone. If the checkpoint of `size` entries is there, the ledger keeps
-- all that it kept, and whatever a crash leaves at any moment in between is complete
pub record ShedsSpent (size : ℕ) (a b : Kept) (saw sees : List Kept) : Type 0 where
  pub kept : (history : List Prefix) (log : List Bytes) (ledger : Ledger) → IsKeeping sha256 history log a ledger
      → IsShown sha256 history size a.held → IsKeeping sha256 history log b ledger
  pub safe : (history : List Prefix) (log : List Bytes) (ledger : Ledger) → IsKeeping sha256 history log a ledger
      → IsShown sha256 history size a.held → KeptSafe sha256 history saw sees
  pub spent : RemovesSpent size a b
