use Rattle.std.proofs.Common.{List}
use Rattle.tl_hash.specs.Bytes.{Bytes}
use Rattle.tl_tile.proofs.BundleLemmas.{HasRead}
use Rattle.tl_bucket.proofs.commit.behind.Given as goal

abbrev pub invariant-loop : goal.invariant-loop
invariant-loop l = (read : List Bytes) × HasRead l.bytes l.counter read l.rest
