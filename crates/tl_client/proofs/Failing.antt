-- A fault of a call that the caller returns.
use Rattle.std.proofs.Common.{◌≡◌, sym, subst}
use Rattle.std.specs.Prelude.{Result, Ok, Err, IfErr, IsErrAnd}

-- what a call failed with
pub handed_on : {T E : Type 0} (Holds : Result T E → Type 0) (r : Result T E) (given : E) → IsErrAnd r (λ e. e ≡ given) → Holds (Err given) → Holds r
handed_on Holds (Ok done) given is holds = absurd is
handed_on {T} {E} Holds (Err e) given is holds = subst (λ (f : E). Holds (Err f)) (sym is) holds

-- the same of what holds of a fault alone
pub fault_on : {T E : Type 0} (Holds : E → Type 0) (r : Result T E) (given : E) → IsErrAnd r (λ e. e ≡ given) → Holds given → IfErr r Holds
fault_on Holds (Ok done) given is holds = absurd is
fault_on Holds (Err e) given is holds = subst Holds (sym is) holds
