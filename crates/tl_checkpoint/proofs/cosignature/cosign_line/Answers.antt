use Rattle.std.proofs.Common.{string_bytes, Err, refl, sym, ap, subst, ◌∙◌, true≢false}
use Rattle.tl_note.specs.Key.{IsKeyName}
use Rattle.tl_note.specs.declared.keys.SignFault.{SignFault}
use Rattle.tl_checkpoint.proofs.CosignatureLemmas.{own_name}
use Rattle.tl_checkpoint.proofs.cosignature.cosign_line.Goals as goal

pub returns-then-not-is_key_name : goal.returns-then-not-is_key_name
returns-then-not-is_key_name g c = (
  refl,
  λ named. true≢false (sym (c.is_key_name.ensures.1 (subst IsKeyName (sym c.name.ensures) named)) ∙ c.if-not-is_key_name.true),
)

pub cosignature_line_named-requires : goal.cosignature_line_named-requires
cosignature_line_named-requires g c =
    subst IsKeyName (c.name.ensures ∙ sym c.name-2.ensures) (c.is_key_name.ensures.0 c.if-not-is_key_name.false)

pub returns-in-Ok : goal.returns-in-Ok
returns-in-Ok g c =
    own_name c.args.text.now c.args.time ((goal.Signer-dyn g c.args.signer.now).signing_key c.args.signer.now.1) c.name-2.result.now (string_bytes c.in-Ok.line) c.name-2.ensures c.in-Ok.ensures.line

pub returns-in-Err-Refused : goal.returns-in-Err-Refused
returns-in-Err-Refused g c = (
  refl,
  subst IsKeyName c.name.ensures (c.is_key_name.ensures.0 c.if-not-is_key_name.false),
  c.in-Err-Refused.ensures.refused (ap (λ (fault : SignFault). Err fault) c.in-Err-Refused.field-0-is),
)

pub returns-in-Err-OutOfMemory : goal.returns-in-Err-OutOfMemory
returns-in-Err-OutOfMemory g c = subst IsKeyName c.name.ensures (c.is_key_name.ensures.0 c.if-not-is_key_name.false)
