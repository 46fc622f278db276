use Rattle.std.proofs.Common.{ap, ◌∙◌, arith}
use Rattle.tl_s3.specs.Inner.Digits.{day_in, time_in}
use Rattle.tl_s3.proofs.Texts.{day_is, time_is, day_utf8, time_utf8}
use Rattle.tl_s3.proofs.Times.{before_end}
use Rattle.tl_s3.proofs.moment.Moment.from_unix_seconds.Goals as goal

pub returns-in_default-clause-civil : goal.returns-in_default-clause-civil
returns-in_default-clause-civil c =
    λ t at. grind (arith, c.in_default.ensures.succeeds.1 (before_end c.args.seconds t at))

pub returns-in_default-from_byte_string-clause-until :
    goal.returns-in_default-from_byte_string-clause-until
returns-in_default-from_byte_string-clause-until c =
    let utf8 = day_utf8 c.in-Ok.date _ _ c.to_bytes-text.ensures c.day_in.ensures.digits in
    grind (arith, c.in_default-from_byte_string.ensures.variant.1 utf8)

pub returns-in_default-from_byte_string-clause-civil :
    goal.returns-in_default-from_byte_string-clause-civil
returns-in_default-from_byte_string-clause-civil c =
    let utf8 = day_utf8 c.in-Ok.date _ _ c.to_bytes-text.ensures c.day_in.ensures.digits in
    grind (arith, c.in_default-from_byte_string.ensures.variant.1 utf8)

pub returns-in_default-from_byte_string-2-clause-until :
    goal.returns-in_default-from_byte_string-2-clause-until
returns-in_default-from_byte_string-2-clause-until c =
    let utf8 = time_utf8 c.in-Ok.date _ _ c.to_bytes-text.ensures c.time_in.ensures.digits in
    grind (arith, c.in_default-from_byte_string-2.ensures.variant.1 utf8)

pub returns-in_default-from_byte_string-2-clause-civil :
    goal.returns-in_default-from_byte_string-2-clause-civil
returns-in_default-from_byte_string-2-clause-civil c =
    let utf8 = time_utf8 c.in-Ok.date _ _ c.to_bytes-text.ensures c.time_in.ensures.digits in
    grind (arith, c.in_default-from_byte_string-2.ensures.variant.1 utf8)

pub invariant_of-result : goal.invariant_of-result
invariant_of-result c = (
  c.in-Ok-from_byte_string.ensures.ok ∙ c.day_in.ensures.digits ∙ ap day_in c.to_bytes-text.ensures
      ∙ day_is c.in-Ok.date,
  c.in-Ok-from_byte_string-2.ensures.ok ∙ c.time_in.ensures.digits ∙ ap time_in c.to_bytes-text.ensures
      ∙ time_is c.in-Ok.date,
)
