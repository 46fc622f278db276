-- What a call of a source returns.
use Rattle.std.specs.Prelude.{◌≡◌, ◌≢◌, ℕ, Result, Ok, Err, vec_items}
use Rattle.std.specs.declared.vec.Vec.{Vec}
use Rattle.tl_hash.specs.Bytes.{Bytes}
use Rattle.tl_device.specs.declared.fault.DeviceFault.{DeviceFault}
use Rattle.tl_device.specs.declared.fault.DeviceFault.TheVariants as device
use Rattle.tl_http.specs.declared.fault.HttpFault.TheVariants as http
use Rattle.tl_tile.specs.declared.resource.Resource.{Resource}
use Rattle.tl_tile.specs.declared.source.SourceFault.{SourceFault}
use Rattle.tl_tile.specs.declared.source.SourceFault.TheVariants as source
use Rattle.tl_source.specs.Asking.{Asks, MayGive}
use Rattle.tl_source.specs.declared.calling.CallFault.{CallFault}
use Rattle.tl_source.specs.declared.calling.CallFault.TheVariants.{Failed, Unreached}

-- the result of asking a host for a resource; if memory ran out, nothing may have been sent
abbrev pub AsksFor : {A : Type 0} → Bytes → Bytes → Resource → Result (Vec ℕ A) CallFault → Type 0
AsksFor authority prefix r (Ok body) = MayGive authority prefix r (vec_items body)
AsksFor authority prefix r (Err (Failed fault is_late)) =
    fault ≢ http.OutOfMemory → Asks authority prefix r (Err fault)
AsksFor authority prefix r (Err (Unreached why)) = Unit {0}

-- the fault that a source returns for this reason
abbrev pub after_lack : DeviceFault → SourceFault
after_lack device.OutOfMemory = source.OutOfMemory
after_lack other = source.Unavailable

-- what a source returns for this outcome
abbrev pub NotedAs : {T : Type 0} → Result T DeviceFault → Result T SourceFault → Type 0
NotedAs (Ok found) told = told ≡ Ok found
NotedAs (Err why) told = told ≡ Err (after_lack why)
