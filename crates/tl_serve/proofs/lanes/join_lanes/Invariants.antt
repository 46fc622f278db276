use Rattle.std.proofs.Common.{◌≡◌, All, length}
use Rattle.std.specs.Global.{Global as GlobalValue}
use Rattle.tl_sequencer.specs.Log.{IsEndOf, IsSenderOf, Log}
use Rattle.tl_serve.proofs.lanes.join_lanes.Given as goal

-- of each log that all threads promised, each end is, and those that are left promised so
abbrev pub invariant-loop-thread : goal.invariant-loop-thread
invariant-loop-thread g l =
    ((log : Log GlobalValue) → All (λ h. IsSenderOf h.promise.0.value log) l.fn.threads.items →
    All (λ e. IsEndOf e log) l.ends.items × All (λ h. IsSenderOf h.promise.0.value log) l.thread-iterator.rest.items)
    × (l.thread-iterator.rest.len ≡ length l.thread-iterator.rest.items)
