use Rattle.std.proofs.Common.{inl, inr, refl}
use Rattle.tl_client.proofs.Failing.{fault_on}
use Rattle.tl_fetch.proofs.judging.proof_from.Goals as goal

pub returns-in_err-old_root-clause-refused : goal.returns-in_err-old_root-clause-refused
returns-in_err-old_root-clause-refused g c =
    fault_on _ c.from_residual.result _ c.from_residual.ensures.1
    (inl (c.in_err-old_root.field-0.0, rw (c.new-reader.ensures) at c.in_err-old_root.ensures.faults, refl))

pub returns-in_err-proof-clause-refused : goal.returns-in_err-proof-clause-refused
returns-in_err-proof-clause-refused g c =
    fault_on _ c.from_residual-in_err-proof.result _ c.from_residual-in_err-proof.ensures.1
    (inr (inl (c.in_ok-old_root.old_root, c.in_err-proof.ensures.refused)))
