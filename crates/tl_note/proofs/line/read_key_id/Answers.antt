use Rattle.std.proofs.Common.{List, ℕ, take, ap, subst, arith, refl}
use Rattle.tl_text.specs.Base64.{IsSpelled}
use Rattle.tl_note.proofs.FieldLemmas.{no_short_field, no_field_block, no_field_few, field_shown}
use Rattle.tl_note.proofs.line.read_key_id.Goals as goal

pub returns-then-text-lt-BLOCK_LEN : goal.returns-then-text-lt-BLOCK_LEN
returns-then-text-lt-BLOCK_LEN c = λ s is e. no_short_field c.args.field.now s (omega arith) is e

pub returns-in_default : goal.returns-in_default
returns-in_default c = λ s is e. no_field_block c.args.field.now _ s (ap (take 8) c.as_bytes-text.ensures.value) (rw c.in_default.is at c.decode_base64_block.ensures) is e

pub returns-then-block-le-KEY_ID_LEN : goal.returns-then-block-le-KEY_ID_LEN
returns-then-block-le-KEY_ID_LEN c = λ s is e. no_field_few c.args.field.now _ c.in-Some.block.bytes c.in-Some.block.count s (ap (take 8) c.as_bytes-text.ensures.value) c.in-Some.ensures (omega arith) is e

pub returns : goal.returns
returns c =
    let whole = c.if-not-is_base64.ensures.0 refl in
    let spelled : IsSpelled c.args.field.now whole.0 = subst (λ (t : List ℕ). IsSpelled t whole.0) c.as_bytes-text.ensures.value whole.1 in
    field_shown c.args.field.now _ whole.0 c.in-Some.block.bytes c.in-Some.block.count c.from_be_bytes.result (ap (take 8) c.as_bytes-text.ensures.value) spelled c.in-Some.ensures (omega arith) (omega arith) c.from_be_bytes.ensures
