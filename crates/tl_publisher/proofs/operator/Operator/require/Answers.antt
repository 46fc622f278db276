use Rattle.std.proofs.Common.{refl, map}
use Rattle.tl_publisher.proofs.Proposals.{operating_requires}
use Rattle.tl_publisher.proofs.operator.Operator.require.Goals as goal

pub returns-clause-required : goal.returns-clause-required
returns-clause-required g c =
    let told = rw c.as_slice.ensures.value at c.in_default.ensures in
    record { early = told.0; may = told.1; apart = told.2; quorum = refl; origin = refl; signers = refl; same = record { log = refl; proposal = refl; past = refl } }

pub returns-clause-operating : goal.returns-clause-operating
returns-clause-operating g c =
    let told = rw c.as_slice.ensures.value at c.in_default.ensures in
    operating_requires _ _ (record { witnesses = map (λ b. (goal.Verifier-dyn g (b.vtable, b.value)).key b.value) c.args.witnesses.items; need = c.args.need })
    (record { early = told.0; may = told.1; apart = told.2; quorum = refl; origin = refl; signers = refl; same = record { log = refl; proposal = refl; past = refl } }) c.requires
