use Rattle.std.proofs.Common.{◌≡◌}
use Rattle.tl_client.specs.Blame.{leaf_numbers}
use Rattle.tl_client.proofs.leaves.numbers_of.Given as goal

abbrev pub invariant-loop-i : goal.invariant-loop-i
invariant-loop-i g l = l.numbers.items ≡ leaf_numbers l.first l.i
