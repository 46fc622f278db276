use Rattle.std.proofs.Common.{length, ◌-◌, ◌≤◌, map, take, vec_items}
use Rattle.tl_tile.specs.Inner.Adds.{Adds}
use Rattle.tl_tile.specs.Fetched.{texts_of}
use Rattle.tl_tile.proofs.edge.Edge.append_each.Given as goal

-- the entries up to here were added
abbrev pub invariant-loop-at : goal.invariant-loop-at
invariant-loop-at g l = record {
  within : l.at ≤ length l.entries;
  adds : Adds g.T.TreeHash.digest_of (map vec_items (take l.at l.entries)) l.initial.self l.self (texts_of l.initial.tiles.items) (texts_of l.tiles.items);
}

abbrev pub decreases-loop-at : goal.decreases-loop-at
decreases-loop-at g l = length l.entries - l.at
