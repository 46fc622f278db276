use Rattle.std.proofs.Common.{◌*◌}
use Rattle.tl_prove.specs.Inner.Proving.{AreOthersFrom}
use Rattle.tl_prove.proofs.proving.look_for.Given as goal

-- the entries of the bundles that were looked through are others
abbrev pub invariant-loop-left : goal.invariant-loop-left
invariant-loop-left g l = AreOthersFrom l.head l.entry (256 * l.left)

abbrev pub decreases-loop-left : goal.decreases-loop-left
decreases-loop-left g l = l.left
