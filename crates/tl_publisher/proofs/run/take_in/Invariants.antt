use Rattle.std.proofs.Common.{ℕ, ◌≤◌, ◌-◌, length, take}
use Rattle.sha2.specs.Sha256.{sha256}
use Rattle.tl_sequencer.specs.Log.{entries_of}
use Rattle.tl_publisher.specs.Grown.{IsGrown}
use Rattle.tl_publisher.proofs.run.take_in.Given as goal

-- it has the entries before its size
abbrev pub invariant-loop-growth : goal.invariant-loop-growth
invariant-loop-growth l = record {
  within : l.growth.edge.size ≤ length (entries_of l.log);
  grown : (start : ℕ) → IsGrown sha256 start (take l.initial.growth.edge.size (entries_of l.log)) l.initial.growth → IsGrown sha256 start (take l.growth.edge.size (entries_of l.log)) l.growth;
}

abbrev pub decreases-loop-growth : goal.decreases-loop-growth
decreases-loop-growth l = length (entries_of l.log) - l.growth.edge.size
