use Rattle.std.proofs.Common.{arith, string_bytes}
use Rattle.std.proofs.lemmas.Grind.{common_steps}
use Rattle.tl_note.proofs.SignLemmas.{name_at, passes_on, signed_more}
use Rattle.tl_note.proofs.sign.push_lines.Goals as goal

pub push_line-requires : goal.push_line-requires
push_line-requires g c = name_at (λ b. (goal.Signer-dyn g (b.vtable, b.value)).signing_key b.value) c.args.signers.now c.loop-place.place c.index-signers-place.result (omega arith) c.index-signers-place.is c.requires

pub returns-in_err-push_line : goal.returns-in_err-push_line
returns-in_err-push_line g c = passes_on (λ b. (goal.Signer-dyn g (b.vtable, b.value)).signing_key b.value) c.args.signers.now c.args.text.now (string_bytes c.args.note.now) (string_bytes c.loop-place.note) (string_bytes c.push_line.new.note) c.loop-place.place c.index-signers-place.result c.in_err-push_line.field-0.0 c.from_residual.result (omega arith) c.index-signers-place.is c.in_err-push_line.ensures c.from_residual.ensures.1

pub loop-place-preserved : goal.loop-place-preserved
loop-place-preserved g c =
    let signed = c.in_ok-push_line.ensures in
    signed_more (λ b. (goal.Signer-dyn g (b.vtable, b.value)).signing_key b.value) c.args.signers.now c.args.text.now (string_bytes c.args.note.now) (string_bytes c.loop-place.note) (string_bytes c.push_line.new.note) c.loop-place.place c.index-signers-place.result signed.0 (omega arith) c.index-signers-place.is c.loop-place.invariant signed.1 signed.2 signed.3

pub returns : goal.returns
returns g c = grind (arith, common_steps)
