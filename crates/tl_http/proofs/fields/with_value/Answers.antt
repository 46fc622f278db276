use Rattle.std.proofs.Common.{refl, subst}
use Rattle.tl_http.specs.Fields.{AnnouncesLength}
use Rattle.tl_http.proofs.LengthLemmas.{still_unclear, two_numbers}
use Rattle.tl_http.proofs.fields.with_value.Goals as goal

pub returns-in-Err : goal.returns-in-Err
returns-in-Err c = λ values says. let said = rw c.in-Err.is at says in (said.0, still_unclear c.args.text.now values said.1)

pub returns-else-m-n : goal.returns-else-m-n
returns-else-m-n c = λ values says.
    let said = subst (λ n. AnnouncesLength values n) c.in-Some-others.is (rw c.in-Ok.is at says) in
    (refl, two_numbers c.args.text.now values c.in-Some.n c.in-Some-others.m c.in-Some.ensures said c.if-m-n.false)
