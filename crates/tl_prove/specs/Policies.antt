-- Reading a policy, and writing the extra data of a proof.
use Rattle.std.specs.Prelude.{◌≡◌, ◌≢◌, Option, None, Result, Ok, Err}
use Rattle.tl_hash.specs.Bytes.{Bytes}
use Rattle.tl_policy.specs.ReadPolicy.{ReadsPolicy}
use Rattle.tl_policy.specs.Terms.{terms_of}
use Rattle.tl_policy.specs.declared.fault.PolicyFault.TheVariants as policy
use Rattle.tl_policy.specs.declared.policy.Policy.{Policy}
use Rattle.tl_prove.specs.declared.fault.NamedFile.TheVariants.{Extra}
use Rattle.tl_prove.specs.declared.fault.ProveFault.{ProveFault}
use Rattle.tl_prove.specs.declared.fault.ProveFault.TheVariants as fault
use Rattle.tl_prove.specs.Faults.{IsOfFile, out_of_memory}

-- the text is refused as that of a policy, for this reason
abbrev pub RefusesPolicy : Bytes → ProveFault → Type 0
RefusesPolicy text (fault.Policy why) = ReadsPolicy text (Err why) × (why ≢ policy.OutOfMemory)
RefusesPolicy text why = why ≡ out_of_memory

-- the policy that a text is, or why it is none
abbrev pub ReadsTerms : {A : Type 0} → Bytes → Result (Policy A) ProveFault → Type 0
ReadsTerms text (Ok p) = ReadsPolicy text (Ok (terms_of p))
ReadsTerms text (Err why) = RefusesPolicy text why

-- writing extra data fails: there are none, or their file failed
abbrev pub FailsExtra : Option Bytes → ProveFault → Type 0
FailsExtra extra fault.NoExtra = extra ≡ None
FailsExtra extra why = IsOfFile Extra why

abbrev pub WritesExtra : Option Bytes → Result (Unit {0}) ProveFault → Type 0
WritesExtra extra (Ok done) = Unit {0}
WritesExtra extra (Err why) = FailsExtra extra why
