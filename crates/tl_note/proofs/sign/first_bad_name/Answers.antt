use Rattle.std.proofs.Common.{refl, subst, arith}
use Rattle.tl_note.specs.Key.{IsKeyName}
use Rattle.tl_note.proofs.SignLemmas.{names_more, names_all}
use Rattle.tl_note.proofs.sign.first_bad_name.Goals as goal

pub loop-place-preserved : goal.loop-place-preserved
loop-place-preserved g c = names_more (λ b. (goal.Signer-dyn g (b.vtable, b.value)).signing_key b.value) c.args.signers.now c.loop-place.place c.index-signers-place.result (omega arith) c.index-signers-place.is c.loop-place.invariant (subst IsKeyName c.name_of.ensures (c.if-not-is_key_name.ensures.0 refl))

pub returns : goal.returns
returns g c = names_all (λ b. (goal.Signer-dyn g (b.vtable, b.value)).signing_key b.value) c.args.signers.now c.loop-place.place (omega arith) c.loop-place.invariant
