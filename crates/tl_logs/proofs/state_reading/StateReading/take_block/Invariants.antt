use Rattle.std.proofs.Common.{List, ℕ, ◌<◌, ◌^◌, ◌++◌, length}
use Rattle.tl_logs.specs.Inner.Counting.{counts_of}
use Rattle.tl_logs.specs.Inner.Stream.{HasRead}
use Rattle.tl_logs.proofs.BlockLaws.{TookPart}
use Rattle.tl_logs.proofs.state_reading.StateReading.take_block.Given as goal

-- a part of the block was taken
abbrev pub invariant-loop-left : goal.invariant-loop-left
invariant-loop-left g l = (input : List ℕ) → length (input ++ l.block) < 2 ^ 63 → HasRead g.T.TreeHash.digest_of (counts_of l.counting) l.initial.self input
    → TookPart g.T.TreeHash.digest_of (counts_of l.counting) l.self input l.block l.left

abbrev pub decreases-loop-left : goal.decreases-loop-left
decreases-loop-left g l = length l.left
