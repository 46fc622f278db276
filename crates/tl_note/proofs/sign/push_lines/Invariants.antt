use Rattle.std.proofs.Common.{take, map, string_bytes}
use Rattle.tl_note.specs.Inner.Signing.{AddsLines}
use Rattle.tl_note.proofs.sign.push_lines.Given as goal

-- the lines of the signers before this place are added
abbrev pub invariant-loop-place : goal.invariant-loop-place
invariant-loop-place g l = AddsLines l.text (take l.place (map (λ b. (goal.Signer-dyn g (b.vtable, b.value)).signing_key b.value) l.signers)) (string_bytes l.initial.note) (string_bytes l.note)
