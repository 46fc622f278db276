use Rattle.std.proofs.Common.{map}
use Rattle.tl_checkpoint.proofs.Quorums.{AreApartBefore}
use Rattle.tl_checkpoint.proofs.quorum.have_distinct_names.Given as goal

abbrev pub invariant-loop-place : goal.invariant-loop-place
invariant-loop-place g l = AreApartBefore (map (λ b. (goal.Verifier-dyn g (b.vtable, b.value)).key b.value) l.witnesses) l.place
