use Rattle.std.proofs.Common.{length}
use Rattle.tl_text.proofs.Base64Lemmas.{ReadsOn}
use Rattle.tl_text.proofs.blocks.is_base64.Given as goal

abbrev pub invariant-loop-left : goal.invariant-loop-left
invariant-loop-left l = ReadsOn l.text l.left

abbrev pub decreases-loop-left : goal.decreases-loop-left
decreases-loop-left l = length l.left
