use Rattle.std.proofs.Common.{◌≡◌, ◌-◌, slice_index_or, sym}
use Rattle.std.specs.Bool.{IsTrue}
use Rattle.std.specs.Char.{digit_value, is_ascii_digit}
use Rattle.tl_http.proofs.NumberLemmas.{digit_more, digit_is, passes_more}
use Rattle.tl_http.proofs.field_values.number_in.Goals as goal

pub loop-byte-preserved : goal.loop-byte-preserved
loop-byte-preserved c =
    let digit : digit_value (slice_index_or c.args.text.now c.loop-byte.byte-index 0) ≡ slice_index_or c.args.text.now c.loop-byte.byte-index 0 - 48 = digit_is _ c.if-not-is_ascii_digit.ensures.cases.0 c.if-not-is_ascii_digit.ensures.cases.1 in
    record {
      digits = passes_more (λ b. IsTrue (is_ascii_digit b)) c.args.text.now c.loop-byte.byte-index 0 c.loop-byte-test.true c.loop-byte.invariant.digits (sym c.if-not-is_ascii_digit.ensures.value);
      value = digit_more c.args.text.now c.loop-byte.byte-index 0 c.loop-byte.n _ _ c.loop-byte-test.true c.loop-byte.invariant.value c.saturating_mul.ensures c.saturating_add-n.ensures digit;
    }
