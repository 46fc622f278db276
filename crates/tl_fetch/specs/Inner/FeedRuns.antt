-- How a run of `feed` ends over a source.
use Rattle.std.specs.Prelude.{Result, Ok, Err}
use Rattle.tl_hash.specs.Bytes.{Bytes}
use Rattle.tl_device.specs.Device.{Passage}
use Rattle.tl_tile.specs.declared.resource.Resource.{Resource}
use Rattle.tl_tile.specs.declared.resource.Resource.TheVariants.{Checkpoint}
use Rattle.tl_fetch.specs.declared.fault.FetchFault.{FetchFault}
use Rattle.tl_fetch.specs.declared.options.FetchOptions.{FetchOptions}
use Rattle.tl_fetch.specs.Command.{grounds_over, may_have}
use Rattle.tl_fetch.specs.Feeding.{HasFed, RefusesFeed}
use Rattle.tl_fetch.specs.Trusting.{AreTwo, Policy, Two, alone}

-- a run under a policy over a source that may answer these texts and may lack these resources
abbrev pub FeedsOver : (Resource → Bytes → Type 0) → (Resource → Type 0) → Policy → FetchOptions → Passage → Result (Unit {0}) FetchFault → Type 0
FeedsOver answers lacks policy options o (Ok done) =
    (two : Two) × AreTwo (may_have options.state) (answers Checkpoint) (alone policy) two × HasFed (λ note. Unit {0}) policy two o
FeedsOver answers lacks policy options o (Err fault) = RefusesFeed (grounds_over answers lacks options) policy fault o
