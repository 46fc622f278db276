use Rattle.std.proofs.Common.{map}
use Rattle.tl_note.proofs.OpenLemmas.{HasSorted}
use Rattle.tl_note.proofs.open.sort_lines.Given as goal

-- what was found of the lines before this place
abbrev pub invariant-loop-place : goal.invariant-loop-place
invariant-loop-place g l = HasSorted (map (λ b. (goal.Verifier-dyn g (b.vtable, b.value)).key b.value) l.verifiers) l.text l.lines l.place l.verified.items l.unverified.items
