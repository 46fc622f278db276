use Rattle.std.proofs.Common.{Err, ap, subst, arith}
use Rattle.std.proofs.lemmas.Grind.{common_steps}
use Rattle.tl_note.specs.Key.{MayGiveNone}
use Rattle.tl_checkpoint.specs.Cosignature.{cosigned_message}
use Rattle.tl_witness.proofs.cosign.cosign.Goals as goal

pub returns-in-Err-Refused : goal.returns-in-Err-Refused
returns-in-Err-Refused g c =
    subst (λ b. MayGiveNone ((goal.Signer-dyn g b).signing_key b.1) (cosigned_message c.args.time c.args.text.now)) c.deref_box-1.ensures.1
    (c.in-Err-Refused.ensures.refused (ap Err c.in-Err-Refused.field-0-is))

pub cosignature_line_named-requires : goal.cosignature_line_named-requires
cosignature_line_named-requires g c = grind (arith, common_steps)

pub widen-cosignature_line_named : goal.widen-cosignature_line_named
widen-cosignature_line_named g c = grind (arith, common_steps)
