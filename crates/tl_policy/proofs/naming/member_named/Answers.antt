use Rattle.std.proofs.Common.{Some, None}
use Rattle.std.specs.Prelude.{bytes_eq}
use Rattle.tl_policy.specs.Terms.{group_term, terms_of, witness_term}
use Rattle.tl_policy.proofs.ListLaws.{position_seen}
use Rattle.tl_policy.proofs.NamingLaws.{member_first, member_is}
use Rattle.tl_policy.proofs.naming.member_named.Goals as goal

pub returns-in-Some : goal.returns-in-Some
returns-in-Some g c =
    member_first (terms_of c.args.policy.now) c.args.name.now c.in-Some.place
    (position_seen witness_term (λ w. bytes_eq w.name c.args.name.now) c.args.policy.now.witnesses.items c.as_slice.result.now (Some c.in-Some.place) c.as_slice.ensures.value c.in-Some.ensures)

pub returns-in-Some-group_named : goal.returns-in-Some-group_named
returns-in-Some-group_named g c =
    member_is (terms_of c.args.policy.now) c.args.name.now None (Some c.in-Some-group_named.place)
    (position_seen witness_term (λ w. bytes_eq w.name c.args.name.now) c.args.policy.now.witnesses.items c.as_slice.result.now None c.as_slice.ensures.value c.in-None.ensures)
    (position_seen group_term (λ g'. bytes_eq g'.name c.args.name.now) c.args.policy.now.groups.items c.as_slice-in-None.result.now (Some c.in-Some-group_named.place) c.as_slice-in-None.ensures.value c.in-Some-group_named.ensures)

pub returns-in-None-group_named : goal.returns-in-None-group_named
returns-in-None-group_named g c =
    member_is (terms_of c.args.policy.now) c.args.name.now None None
    (position_seen witness_term (λ w. bytes_eq w.name c.args.name.now) c.args.policy.now.witnesses.items c.as_slice.result.now None c.as_slice.ensures.value c.in-None.ensures)
    (position_seen group_term (λ g'. bytes_eq g'.name c.args.name.now) c.args.policy.now.groups.items c.as_slice-in-None.result.now None c.as_slice-in-None.ensures.value c.in-None-group_named.ensures)
