use Rattle.std.proofs.Common.{◌≡◌, take, map, vec_items}
use Rattle.tl_tile.specs.Bundle.{bundle_text}
use Rattle.tl_tile.proofs.bundle.join_entries.Given as goal

abbrev pub invariant-loop-entry : goal.invariant-loop-entry
invariant-loop-entry g l = l.out.items ≡ bundle_text (map vec_items (take l.entry-index l.entries))
