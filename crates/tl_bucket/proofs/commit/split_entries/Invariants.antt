use Rattle.std.proofs.Common.{ℕ, length, map, vec_items}
use Rattle.tl_tile.proofs.BundleLemmas.{HasRead}
use Rattle.tl_bucket.proofs.commit.split_entries.Given as goal

abbrev pub invariant-loop-rest : goal.invariant-loop-rest
invariant-loop-rest g l = (count : ℕ) × HasRead l.bytes count (map vec_items l.entries.items) l.rest

abbrev pub decreases-loop-rest : goal.decreases-loop-rest
decreases-loop-rest g l = length l.rest
