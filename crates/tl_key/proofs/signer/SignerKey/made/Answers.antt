use Rattle.std.proofs.Common.{List, ℕ, subst, sym}
use Rattle.tl_ed25519.specs.Eddsa.{public_key}
use Rattle.tl_key.specs.NoteKey.{IsKept}
use Rattle.tl_key.proofs.signer.SignerKey.made.Goals as goal

pub invariant_of-result : goal.invariant_of-result
invariant_of-result g c = subst (λ (name : List ℕ). IsKept name g.K.KeyKind.KIND (public_key c.args.secret) c.args.id) (sym c.in_ok-from_str.ensures.ok) c.requires
