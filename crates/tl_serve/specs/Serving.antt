-- A run of `serve` on a shelf: what the lanes gave goes behind what the shelf had.
use Rattle.std.specs.Prelude.{◌≡◌, ◌⊎◌, List, [], Result, Ok, Err}
use Rattle.tl_hash.specs.Bytes.{Bytes}
use Rattle.tl_ledger.specs.Opening.{Found}
use Rattle.tl_run.specs.Signing.{LogKey}
use Rattle.tl_run.specs.declared.keys.LogKey.{LogKey as GivenKey}
use Rattle.tl_run.specs.declared.fault.RunFault.{RunFault}
use Rattle.tl_append.specs.Cosigning.{Quorum, Shows, Turn}
use Rattle.tl_append.specs.Running.{IsLogKey, OfFound, Visit}

-- turns were put behind the log that was found and shown, each under a note of its own checkpoint by the key and with
-- its quorum, and then these entries were put behind it
pub record ServesPart (key : LogKey) (q : Quorum) (found : Found) (v : Visit) : Type 0 where
  pub turns : List Turn
  pub rest : List Bytes
  pub shows : OfFound found v.before (Shows key q turns rest v)

-- nothing was put that isn't shown
pub record ServesWhole (key : LogKey) (q : Quorum) (found : Found) (v : Visit) : Type 0 where
  pub turns : List Turn
  pub shows : OfFound found v.before (Shows key q turns [] v)

-- nothing was written
pub record IsLeft (v : Visit) : Type 0 where
  pub kept : v.after ≡ v.before
  pub trace : v.sees ≡ v.saw

-- how a log of this name is served, under the key that is given, with this quorum of witnesses that must cosign
abbrev pub Serves : GivenKey → Bytes → Quorum → Found → Visit → Result (Unit {0}) RunFault → Type 0
Serves key name q found v (Ok done) = (own : LogKey) × IsLogKey key name own × ServesWhole own q found v
Serves key name q found v (Err fault) = IsLeft v ⊎ ((own : LogKey) × IsLogKey key name own × ServesPart own q found v)
