use Rattle.std.proofs.Common.{◌≡◌, ◌≤◌, ◌-◌, length, map, take, vec_items}
use Rattle.sha2.specs.Sha256.{sha256}
use Rattle.tl_publisher.specs.Grown.{IsGrown}
use Rattle.tl_publisher.proofs.growth.Growth.of.Given as goal

-- it has the entries before this one
abbrev pub invariant-loop-at : goal.invariant-loop-at
invariant-loop-at g l = record {
  within : l.at ≤ length l.entries;
  size : l.growth.edge.size ≡ l.at;
  grown : IsGrown sha256 0 (map vec_items (take l.at l.entries)) l.growth;
}

abbrev pub decreases-loop-at : goal.decreases-loop-at
decreases-loop-at g l = length l.entries - l.at
