use Rattle.std.proofs.Common.{◌≡◌, All}
use Rattle.tl_sequencer.specs.Log.{IsSenderOf, rings_of}
use Rattle.tl_rows.proofs.lanes.run_steps.Given as goal

-- its lanes stay, and the submitters that are left are its own
abbrev pub invariant-loop-line : goal.invariant-loop-line
invariant-loop-line l =
    (rings_of l.log ≡ rings_of l.fn.log)
    × All (λ s. IsSenderOf s l.fn.log) l.submitters.items
