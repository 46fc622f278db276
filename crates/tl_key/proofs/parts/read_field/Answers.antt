use Rattle.std.proofs.Common.{◌≡◌, List, ℕ, length, sym, ap, ◌∙◌, arith, Ok}
use Rattle.base64.specs.GeneralPurpose.{IsBytes}
use Rattle.tl_text.specs.Base64.{IsSpelled, IsRead}
use Rattle.tl_text.proofs.Base64Lemmas.{array_spelled, slice_reads, length-text}
use Rattle.tl_key.proofs.PartsLemmas.{field_read, other_count}
use Rattle.tl_key.proofs.parts.read_field.Goals as goal

pub returns-in_default : goal.returns-in_default
returns-in_default c = λ bytes is.
    let field = c.args.field.now in
    let spelled : IsSpelled field bytes = record { fit = is.fit.fit; spelled = is.spelled } in
    let read : c.decode_slice.result ≡ Ok (length bytes) = c.decode_slice.ensures.value ∙ slice_reads field bytes 33 spelled (omega (arith, is.fit.size, length-text bytes, ap (λ (t : List ℕ). length t) is.spelled)) in
    let bad = sym c.in_default.is ∙ read in
    cc

pub returns-then-count-ne-FIELD_BYTES : goal.returns-then-count-ne-FIELD_BYTES
returns-then-count-ne-FIELD_BYTES c = λ bytes is.
    let field = c.args.field.now in
    let fit : IsBytes field = λ i. let fits = c.type_inv.field i in omega arith in
    let read : IsRead field c.in-Ok.count c.decode_slice.new.output = array_spelled field _ c.decode_slice.new.output 33 c.in-Ok.count fit c.in-Ok.ensures.bytes (sym c.decode_slice.ensures.value ∙ c.in-Ok.is) c.in-Ok.ensures.written in
    other_count field c.decode_slice.new.output bytes c.in-Ok.count read c.if-count-ne-FIELD_BYTES.true is

pub returns : goal.returns
returns c =
    let field = c.args.field.now in
    let fit : IsBytes field = λ i. let fits = c.type_inv.field i in omega arith in
    let read : IsRead field c.in-Ok.count c.decode_slice.new.output = array_spelled field _ c.decode_slice.new.output 33 c.in-Ok.count fit c.in-Ok.ensures.bytes (sym c.decode_slice.ensures.value ∙ c.in-Ok.is) c.in-Ok.ensures.written in
    field_read field c.decode_slice.new.output c.in-Ok.count read c.if-count-ne-FIELD_BYTES.false c.decode_slice.auto.output
