use Rattle.std.proofs.Common.{length}
use Rattle.tl_checkpoint.proofs.ExtensionLemmas.{HasSeen}
use Rattle.tl_checkpoint.proofs.parsing.are_extensions.Given as goal

abbrev pub invariant-loop-left : goal.invariant-loop-left
invariant-loop-left l = HasSeen l.text l.left

abbrev pub decreases-loop-left : goal.decreases-loop-left
decreases-loop-left l = length l.left
