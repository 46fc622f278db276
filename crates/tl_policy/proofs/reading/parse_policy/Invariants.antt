use Rattle.std.proofs.Common.{length}
use Rattle.tl_policy.specs.Inner.Drafts.{draft_of}
use Rattle.tl_policy.proofs.ReadingLaws.{HasRead}
use Rattle.tl_policy.proofs.reading.parse_policy.Given as goal

abbrev pub invariant-loop-left : goal.invariant-loop-left
invariant-loop-left g l = HasRead l.text l.line (draft_of l.draft) l.left

abbrev pub decreases-loop-left : goal.decreases-loop-left
decreases-loop-left g l = length l.left
