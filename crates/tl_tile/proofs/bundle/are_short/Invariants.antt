use Rattle.std.proofs.Common.{take, map, vec_items}
use Rattle.tl_tile.specs.Bundle.{AreShortEntries}
use Rattle.tl_tile.proofs.bundle.are_short.Given as goal

abbrev pub invariant-loop-entry : goal.invariant-loop-entry
invariant-loop-entry g l = AreShortEntries (map vec_items (take l.entry-index l.entries))
