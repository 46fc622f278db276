use Rattle.std.proofs.Common.{◌≡◌, ◌≤◌, ◌+◌, ◌*◌, ◌++◌, List, length, take}
use Rattle.tl_hash.specs.Bytes.{Bytes}
use Rattle.tl_tile.specs.RightEdge.{IsEdgeOf}
use Rattle.tl_tile.proofs.edge.Edge.append_edge.Given as goal

-- the full tiles up to here were added
abbrev pub invariant-loop-root : goal.invariant-loop-root
invariant-loop-root g l = record {
  size : l.self.size ≡ l.initial.self.size + 256 * l.root-index;
  kept : length l.self.kept ≤ length l.initial.self.kept + l.root-index;
  room : length l.initial.self.kept + length l.next.kept ≤ l.self.room;
  entries : (entries added : List Bytes) → IsEdgeOf l.initial.self g.T.TreeHash.digest_of entries → IsEdgeOf l.next g.T.TreeHash.digest_of added → IsEdgeOf l.self g.T.TreeHash.digest_of (entries ++ take (256 * l.root-index) added);
}
