use Rattle.tl_checkpoint.proofs.Quorums.{IsNewBefore}
use Rattle.tl_checkpoint.proofs.quorum.is_repeated.Given as goal

abbrev pub invariant-loop-earlier : goal.invariant-loop-earlier
invariant-loop-earlier g l = IsNewBefore (λ b. (goal.Verifier-dyn g (b.vtable, b.value)).key b.value) l.witnesses l.place l.earlier
