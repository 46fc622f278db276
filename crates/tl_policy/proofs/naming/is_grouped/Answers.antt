use Rattle.std.specs.List.{list_any}
use Rattle.tl_policy.specs.Terms.{group_term, terms_of}
use Rattle.tl_policy.specs.ReadPolicy.{has_member}
use Rattle.tl_policy.proofs.ListLaws.{any_seen, or_second}
use Rattle.tl_policy.proofs.naming.is_grouped.Goals as goal

pub returns-else-has_member : goal.returns-else-has_member
returns-else-has_member g c =
    or_second (has_member c.args.member c.args.members.now) (list_any (λ g'. has_member c.args.member g'.members) (terms_of c.args.policy.now).groups)
    c.has_member.result c.is_in_some.result c.if-has_member.false c.has_member.ensures
    (any_seen group_term (λ g'. has_member c.args.member g'.members) c.args.policy.now.groups.items c.as_slice.result.now c.is_in_some.result c.as_slice.ensures.value c.is_in_some.ensures)
