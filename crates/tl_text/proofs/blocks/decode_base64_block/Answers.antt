use Rattle.std.proofs.Common.{◌≡◌, Ok, length, sym, ◌∙◌, arith}
use Rattle.base64.specs.GeneralPurpose.{IsBytes}
use Rattle.tl_text.proofs.Base64Lemmas.{array_spelled, slice_reads}
use Rattle.tl_text.proofs.blocks.decode_base64_block.Goals as goal

pub returns-in-Ok : goal.returns-in-Ok
returns-in-Ok c =
    let bytes : IsBytes c.args.text.now = λ i. let fits = c.type_inv.text i in omega arith in
    array_spelled c.args.text.now _ c.decode_slice.new.output 6 c.in-Ok.count bytes c.in-Ok.ensures.bytes (sym c.decode_slice.ensures.value ∙ c.in-Ok.is) c.in-Ok.ensures.written

pub returns-in-Err : goal.returns-in-Err
returns-in-Err c = λ bytes is.
    let read : c.decode_slice.result ≡ Ok (length bytes) = c.decode_slice.ensures.value ∙ slice_reads c.args.text.now bytes 6 is (omega arith) in
    let bad = sym c.in-Err.is ∙ read in
    cc
