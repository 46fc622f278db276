use Rattle.std.proofs.Common.{map, vec_items}
use Rattle.tl_tile.proofs.BundleLemmas.{HasRead}
use Rattle.tl_tile.proofs.bundle.split_bundle.Given as goal

abbrev pub invariant-loop : goal.invariant-loop
invariant-loop g l = HasRead l.bytes l.counter (map vec_items l.entries.items) l.rest
