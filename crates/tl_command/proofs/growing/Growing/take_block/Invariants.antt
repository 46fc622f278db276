use Rattle.std.proofs.Common.{ℕ, ◌+◌, ◌-◌, ◌≤◌, ◌++◌, List, length, take}
use Rattle.tl_command.specs.Inner.Growing.{IsGrowing}
use Rattle.tl_command.proofs.growing.Growing.take_block.Given as goal

-- the block was taken up to here
abbrev pub invariant-loop-at : goal.invariant-loop-at
invariant-loop-at g l = record {
  within : l.at ≤ length l.block;
  size : l.self.edge.size ≤ l.initial.self.edge.size + l.at;
  grows : (input : List ℕ) → IsGrowing l.initial.self input → IsGrowing l.self (input ++ take l.at l.block);
}

abbrev pub decreases-loop-at : goal.decreases-loop-at
decreases-loop-at g l = length l.block - l.at
