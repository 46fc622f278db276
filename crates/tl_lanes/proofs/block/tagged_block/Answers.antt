use Rattle.std.proofs.Common.{◌≡◌, ℕ, suc, ◌+◌, ◌∷◌, ◌∙◌, ap, arith, length, slice_index}
use Rattle.tl_lanes.proofs.Padding.{earlier_block, field, last_block}
use Rattle.tl_lanes.proofs.block.tagged_block.Goals as goal

pub with_mark-marked-requires : goal.with_mark-marked-requires
with_mark-marked-requires c = omega arith

pub returns-then-len-t : goal.returns-then-len-t
returns-then-len-t c =
    let len : length c.args.rest.now + 1 ≡ suc (length c.args.rest.now) = omega arith in
    last_block (c.args.tag ∷ c.args.rest.now) c.own_bytes-own.result c.with_mark-marked.result c.with_length.result c.args.t
    (omega arith) (omega arith) (omega arith) c.own_bytes-own.ensures
    (λ i lt e. c.with_mark-marked.ensures.mark i lt (omega arith))
    (λ i lt ne. c.with_mark-marked.ensures.others i lt (λ e. ne (omega (arith, e))))
    c.with_length.ensures.low
    (λ i lt. c.with_length.ensures.high i lt ∙ ap (λ (k : ℕ). slice_index (field k) i) len)

pub returns : goal.returns
returns c =
    earlier_block (c.args.tag ∷ c.args.rest.now) c.own_bytes-own.result c.with_mark-marked.result c.args.t
    (omega arith) (omega arith) c.own_bytes-own.ensures
    (λ i lt e. c.with_mark-marked.ensures.mark i lt (omega arith))
    (λ i lt ne. c.with_mark-marked.ensures.others i lt (λ e. ne (omega (arith, e))))
