use Rattle.std.proofs.Common.{◌≡◌, ◌+◌, ◌*◌, take, map}
use Rattle.tl_policy.specs.Satisfied.{count_satisfied, satisfied_groups}
use Rattle.tl_policy.specs.Terms.{group_term}
use Rattle.tl_policy.proofs.satisfied.+satisfied.Given as goal

-- those of the members so far that are satisfied are counted
abbrev pub invariant-count_satisfied-loop-member : goal.invariant-count_satisfied-loop-member
invariant-count_satisfied-loop-member g l = l.count ≡ count_satisfied l.set (take l.before (satisfied_groups l.set (map group_term l.groups))) (take l.member-index l.members)

abbrev pub decreases-is_member_satisfied : goal.decreases-is_member_satisfied
decreases-is_member_satisfied g l = 3 * l.before

abbrev pub decreases-is_group_satisfied : goal.decreases-is_group_satisfied
decreases-is_group_satisfied g l = 3 * l.place + 2

abbrev pub decreases-count_satisfied : goal.decreases-count_satisfied
decreases-count_satisfied g l = 3 * l.before + 1
