use Rattle.std.proofs.Common.{map, take}
use Rattle.tl_checkpoint.specs.Quorum.{AreFirst}
use Rattle.tl_checkpoint.proofs.quorum.cosignatures_by.Given as goal

-- those of the lines before this place are found
abbrev pub invariant-loop-place : goal.invariant-loop-place
invariant-loop-place g l = AreFirst l.text (map (λ b. (goal.Verifier-dyn g (b.vtable, b.value)).key b.value) l.witnesses) (take l.place l.lines) l.found.items
