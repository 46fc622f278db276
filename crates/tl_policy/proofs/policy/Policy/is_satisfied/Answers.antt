use Rattle.std.proofs.Common.{length, refl, arith}
use Rattle.tl_policy.specs.Terms.{terms_of}
use Rattle.tl_policy.proofs.SatisfiedLaws.{quorum_found}
use Rattle.tl_policy.proofs.policy.Policy.is_satisfied.Goals as goal

pub returns-in-Some : goal.returns-in-Some
returns-in-Some g c =
    quorum_found c.args.set.now (terms_of c.args.self.now) c.args.self.now.groups.items c.as_slice-groups.result.now (length c.as_slice-groups.result.now) c.in-Some.member c.is_member_satisfied.result
    c.as_slice-groups.ensures.value refl (omega arith) c.in-Some.is c.is_member_satisfied.ensures
