use Rattle.std.proofs.Common.{◌<◌, length, drop}
use Rattle.tl_store.proofs.Covering.{Joins}
use Rattle.tl_store.proofs.segment.cover_hash.Given as goal

abbrev pub invariant-loop-count : goal.invariant-loop-count
invariant-loop-count g l = record { within : l.count < length l.hashes; joins : Joins g.T.TreeHash.digest_of (drop l.count l.hashes) l.root }

abbrev pub decreases-loop-count : goal.decreases-loop-count
decreases-loop-count g l = l.count
