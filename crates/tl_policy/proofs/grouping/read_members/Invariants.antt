use Rattle.std.proofs.Common.{length, vec_items}
use Rattle.tl_policy.specs.Terms.{terms_of}
use Rattle.tl_policy.proofs.MemberLaws.{HasMembers}
use Rattle.tl_policy.proofs.grouping.read_members.Given as goal

-- what is left goes on from the members that were read
abbrev pub invariant-loop-name : goal.invariant-loop-name
invariant-loop-name g l = HasMembers l.line (terms_of l.policy) l.names (vec_items l.members) l.left

abbrev pub decreases-loop-name : goal.decreases-loop-name
decreases-loop-name g l = length l.left
