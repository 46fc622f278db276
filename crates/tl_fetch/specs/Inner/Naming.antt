-- How a run ends over a source, and faults that name what was not available.
use Rattle.std.specs.Prelude.{◌≡◌, Option, Some, Result, Ok, Err}
use Rattle.tl_hash.specs.Bytes.{Bytes}
use Rattle.tl_device.specs.Device.{Passage}
use Rattle.tl_tile.specs.declared.resource.Resource.{Resource}
use Rattle.tl_fetch.specs.declared.fault.FetchFault.{FetchFault}
use Rattle.tl_fetch.specs.declared.options.FetchOptions.{FetchOptions}
use Rattle.tl_fetch.specs.declared.options.FetchRequest.{FetchRequest}
use Rattle.tl_source.specs.declared.lack.Lack.{Lack}
use Rattle.tl_run.specs.Faults.{after_device}
use Rattle.tl_run.specs.declared.place.Place.TheVariants.{Source}
use Rattle.tl_fetch.specs.declared.fault.FetchFault.TheVariants.{Run, Unavailable}
use Rattle.tl_fetch.specs.Command.{may_have, state_fails}
use Rattle.tl_fetch.specs.Fetching.{HasFetched, RefusesFetch, unseen_of}
use Rattle.tl_fetch.specs.Trusting.{Policy}

-- a run under a policy over a source that may answer these texts and may lack these resources, with a state that may
-- have these notes and fail with these faults, and another file of that kind
abbrev pub RunsWith : (Resource → Bytes → Type 0) → (Resource → Type 0) → (Option Bytes → Type 0) → (FetchFault → Type 0) → Policy → FetchRequest → Passage → Result (Unit {0}) FetchFault → Type 0
RunsWith answers lacks has fails policy what o (Ok done) =
    HasFetched answers (record { may_have = has; has_kept = λ note. Unit {0} }) (record { may_have = has; has_kept = λ note. Unit {0} }) policy what o
RunsWith answers lacks has fails policy what o (Err fault) =
    RefusesFetch (unseen_of answers lacks has fails) (unseen_of answers lacks has fails) policy what fault o

-- the same, with the state that the options name
abbrev pub RunsOver : (Resource → Bytes → Type 0) → (Resource → Type 0) → Policy → FetchOptions → Passage → Result (Unit {0}) FetchFault → Type 0
RunsOver answers lacks policy options o result =
    RunsWith answers lacks (may_have options.state) (state_fails options.state) policy options.wanted o result

-- the fault that names the resource which the last call lacked, if that isn't available, and no more is known
abbrev pub told_as : FetchFault → Option Lack → FetchFault
told_as Unavailable (Some lack) = Run (after_device (Source lack.resource) lack.why)
told_as fault lack = fault

-- the same outcome of a run, with its fault told so
abbrev pub Renames : Result (Unit {0}) FetchFault → Option Lack → Result (Unit {0}) FetchFault → Type 0
Renames (Ok done) lack (Ok again) = Unit {0}
Renames (Ok done) lack (Err other) = ⊥
Renames (Err fault) lack (Ok done) = ⊥
Renames (Err fault) lack (Err other) = other ≡ told_as fault lack
