use Rattle.std.proofs.Common.{◌≡◌, All, length}
use Rattle.std.specs.Global.{Global as GlobalValue}
use Rattle.tl_sequencer.specs.Log.{IsSenderOf, Log}
use Rattle.tl_serve.proofs.lanes.start_lanes.Given as goal

-- of each log that all lanes are of, each thread that was started promises so, and each lane that is left is
abbrev pub invariant-loop-lane : goal.invariant-loop-lane
invariant-loop-lane g l =
    ((log : Log GlobalValue) → All (λ k. IsSenderOf k.submitter log) l.fn.lanes.items →
    All (λ h. IsSenderOf h.promise.0.value log) l.threads.items × All (λ k. IsSenderOf k.submitter log) l.lane-iterator.rest.items)
    × (l.lane-iterator.rest.len ≡ length l.lane-iterator.rest.items)
