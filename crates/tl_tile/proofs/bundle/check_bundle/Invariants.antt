use Rattle.std.proofs.Common.{ℕ, List}
use Rattle.tl_tile.proofs.BundleLemmas.{HasRead}
use Rattle.tl_tile.proofs.bundle.check_bundle.Given as goal

abbrev pub invariant-loop : goal.invariant-loop
invariant-loop l = (entries : List (List ℕ)) × HasRead l.bytes l.counter entries l.rest
