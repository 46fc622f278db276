use Rattle.std.proofs.Common.{map}
use Rattle.tl_checkpoint.proofs.Quorums.{IsOfNoneBefore}
use Rattle.tl_checkpoint.proofs.quorum.cosigned_at.Given as goal

-- no witness before this place made it
abbrev pub invariant-loop-witness : goal.invariant-loop-witness
invariant-loop-witness g l = IsOfNoneBefore l.text (map (λ b. (goal.Verifier-dyn g (b.vtable, b.value)).key b.value) l.witnesses) l.line l.witness
