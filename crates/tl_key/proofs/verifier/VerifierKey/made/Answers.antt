use Rattle.std.proofs.Common.{List, ℕ, subst, sym}
use Rattle.tl_key.specs.NoteKey.{IsKept}
use Rattle.tl_key.proofs.verifier.VerifierKey.made.Goals as goal

pub invariant_of-result : goal.invariant_of-result
invariant_of-result g c = subst (λ (name : List ℕ). IsKept name g.K.KeyKind.KIND c.args.key c.args.id) (sym c.in_ok-from_str.ensures.ok) c.requires
