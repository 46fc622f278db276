use Rattle.std.proofs.Common.{string_bytes, ap, subst, ◌∙◌, arith}
use Rattle.std.proofs.lemmas.Grind.{common_steps}
use Rattle.tl_note.specs.Key.{MayGiveNone}
use Rattle.tl_note.specs.declared.keys.SignFault.TheVariants.{Refused}
use Rattle.tl_checkpoint.specs.Cosignature.{cosignature}
use Rattle.tl_checkpoint.proofs.CosignatureLemmas.{cosigned, same_fault}
use Rattle.tl_checkpoint.proofs.cosignature.cosignature_line_named.Goals as goal

pub returns-in-Err-clause-refused : goal.returns-in-Err-clause-refused
returns-in-Err-clause-refused g c =
    λ refused. subst (MayGiveNone ((goal.Signer-dyn g c.args.signer.now).signing_key c.args.signer.now.1))
    (c.as_bytes.ensures.value ∙ c.in_ok-message.ensures) (c.in-Err.ensures.refused (same_fault c.in-Err.fault Refused refused))

pub returns-clause-line : goal.returns-clause-line
returns-clause-line g c =
    cosigned c.args.text.now c.args.time ((goal.Signer-dyn g c.args.signer.now).signing_key c.args.signer.now.1) c.args.name.now (string_bytes c.in_ok-line.line) c.as_bytes.result.now c.in-Ok.signature.items c.as_slice-2.result.now c.key_id.result
    (c.as_bytes.ensures.value ∙ c.in_ok-message.ensures) c.in-Ok.ensures.given c.in-Ok.ensures.some c.requires
    c.key_id.ensures (c.as_slice-2.ensures.value ∙ c.in_ok-bytes.ensures ∙ ap (cosignature c.args.time) c.as_slice.ensures.value) c.in_ok-line.ensures.text

pub returns-clause-refused : goal.returns-clause-refused
returns-clause-refused g c = grind (arith, common_steps)

pub returns-in-Err-clause-line : goal.returns-in-Err-clause-line
returns-in-Err-clause-line g c = grind (arith, common_steps)

pub returns-in_err-bytes-clause-refused : goal.returns-in_err-bytes-clause-refused
returns-in_err-bytes-clause-refused g c = grind (arith, common_steps)

pub returns-in_err-line-clause-line : goal.returns-in_err-line-clause-line
returns-in_err-line-clause-line g c = grind (arith, common_steps)

pub returns-in_err-line-clause-refused : goal.returns-in_err-line-clause-refused
returns-in_err-line-clause-refused g c = grind (arith, common_steps)

pub returns-in_err-message-clause-refused : goal.returns-in_err-message-clause-refused
returns-in_err-message-clause-refused g c = grind (arith, common_steps)
