-- What calls answer, as what they say.
use Rattle.std.specs.Prelude.{List, vec_items, Result, Ok, Err}
use Rattle.std.specs.declared.vec.Vec.{Vec}
use Rattle.tl_policy.specs.declared.policy.Member.{Member}
use Rattle.tl_policy.specs.declared.policy.Policy.{Policy}
use Rattle.tl_policy.specs.declared.fault.PolicyFault.{PolicyFault}
use Rattle.tl_policy.specs.Terms.{Terms, terms_of}

-- what a policy that was read says
abbrev pub said : {A : Type 0} → Result (Policy A) PolicyFault → Result Terms PolicyFault
said (Ok p) = Ok (terms_of p)
said (Err fault) = Err fault

-- what a call leaves, if it is no fault
abbrev pub outcome : {T : Type 0} → Result (Unit {0}) PolicyFault → T → Result T PolicyFault
outcome (Ok done) left = Ok left
outcome (Err fault) left = Err fault

abbrev pub listed : {A : Type 0} → Result (Vec Member A) PolicyFault → Result (List Member) PolicyFault
listed (Ok members) = Ok (vec_items members)
listed (Err fault) = Err fault
