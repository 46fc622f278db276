use Rattle.std.proofs.Common.{ℕ, List, length}
use Rattle.tl_hash.specs.Bytes.{Bytes}
use Rattle.tl_tile.proofs.BundleLemmas.{HasRead}
use Rattle.tl_bucket.proofs.commit.are_entries.Given as goal

abbrev pub invariant-loop-rest : goal.invariant-loop-rest
invariant-loop-rest l = (count : ℕ) × (read : List Bytes) × HasRead l.bytes count read l.rest

abbrev pub decreases-loop-rest : goal.decreases-loop-rest
decreases-loop-rest l = length l.rest
