-- A running log, after it took in what was submitted, and published.
use Rattle.std.specs.Prelude.{◌≡◌, List, Option}
use Rattle.tl_hash.specs.Bytes.{Bytes}
use Rattle.tl_sequencer.specs.Log.{Log, rings_of}
use Rattle.tl_archive.specs.Shelves.{Kept}
use Rattle.tl_ledger.specs.Standing.{Ledger}
use Rattle.tl_run.specs.Signing.{LogKey}
use Rattle.tl_append.specs.Cosigning.{Quorum}

-- what a log on a shelf began with: its key, what the shelf kept then and after each call before, and its ledger;
-- where its shelf is, and who must cosign what is shown there
pub record Begun : Type 0 where
  pub key : LogKey
  pub kept : Kept
  pub saw : List Kept
  pub was : Ledger
  pub place : Bytes
  pub quorum : Quorum

-- what holds of it still holds, and its lanes and what it began with are the same: the ends of its submitters are its
-- ends
pub record StaysRunning {S A : Type 0} (Holds : S → Type 0) (log_of : S → Log A) (begun_of : S → Option Begun) (before after : S) : Type 0 where
  pub holds : Holds after
  pub rings : rings_of (log_of after) ≡ rings_of (log_of before)
  pub begun : begun_of after ≡ begun_of before
