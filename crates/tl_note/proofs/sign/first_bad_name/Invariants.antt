use Rattle.std.proofs.Common.{take, map, All}
use Rattle.tl_note.proofs.SignLemmas.{IsNamed}
use Rattle.tl_note.proofs.sign.first_bad_name.Given as goal

-- the names before this place are key names
abbrev pub invariant-loop-place : goal.invariant-loop-place
invariant-loop-place g l = All IsNamed (take l.place (map (λ b. (goal.Signer-dyn g (b.vtable, b.value)).signing_key b.value) l.signers))
