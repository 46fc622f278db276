use Rattle.std.proofs.Common.{◌-◌, ◌^◌, ◌<◌, ◌≤◌}
use Rattle.tl_store.specs.Stored.{stored_count}
use Rattle.tl_store.proofs.index.entries_before.Given as goal

abbrev pub invariant-loop-n : goal.invariant-loop-n
invariant-loop-n l = record { low : stored_count l.n ≤ l.index; small : l.n < 2 ^ 62 }

abbrev pub decreases-loop-n : goal.decreases-loop-n
decreases-loop-n l = 2 ^ 62 - l.n
