use Rattle.std.proofs.Common.{◌≡◌, ◌⊎◌, ◌↔◌, Bool, IsTrue, None, Option, Some, eq-eqb, false, inl, inr, refl, subst, sym, true}
use Rattle.tl_feed.specs.Inner.Pausing.{IsTold}
use Rattle.tl_feed.specs.declared.failing.Failure.{Failure}
use Rattle.tl_feed.specs.declared.unasked.Unasked.{Unasked}
use Rattle.tl_feed.proofs.failing.is_told.Goals as goal
use mathlib.Core.Bool.{not}

-- after a failure
after : (is_same : Unasked → Unasked → Bool) (before : Option Failure) (last failure : Failure) (answer : Bool) → before ≡ Some last
    → (IsTrue answer ↔ ((last.round ≡ failure.round) ⊎ (is_same last.why failure.why ≡ false))) → IsTrue answer ↔ IsTold is_same before failure
after is_same before last failure answer is so = subst (λ (o : Option Failure). IsTrue answer ↔ IsTold is_same o failure) (sym is) so

-- after none
first : (is_same : Unasked → Unasked → Bool) (before : Option Failure) (failure : Failure) → before ≡ None → IsTrue true ↔ IsTold is_same before failure
first is_same before failure is = (λ so. subst (λ (o : Option Failure). IsTold is_same o failure) (sym is) tt, λ so. refl)

-- a failure in another round is reported only for another reason
other : (Same : Type 0) (is_same answer : Bool) → (Same → ⊥) → answer ≡ not is_same → IsTrue answer ↔ (Same ⊎ (is_same ≡ false))
other Same true answer none is = (λ so. absurd cc, λ told. elim told as (λ _. IsTrue answer) [ inl same ↦ absurd (none same) | inr no_more ↦ absurd cc ])
other Same false answer none is = (λ so. inr refl, λ told. is)

pub returns-then-last-failure : goal.returns-then-last-failure
returns-then-last-failure c =
    after _ c.args.last c.in-Some.last c.args.failure _ c.in-Some.is
    (λ so. inl c.if-last-failure.true, λ so. eq-eqb c.in-Some.last.round c.args.failure.round c.if-last-failure.true)

pub returns-else-last-failure : goal.returns-else-last-failure
returns-else-last-failure c =
    after _ c.args.last c.in-Some.last c.args.failure c.ne.result c.in-Some.is
    (other (c.in-Some.last.round ≡ c.args.failure.round) _ c.ne.result c.if-last-failure.false c.ne.ensures)

pub returns-in-None : goal.returns-in-None
returns-in-None c = first _ c.args.last c.args.failure c.in-None.is
