use Rattle.std.proofs.Common.{◌+◌, ◌∙◌, ap, arith, drop, length, slice_index, List, ℕ}
use Rattle.tl_lanes.proofs.Padding.{put_below, put_in}
use Rattle.tl_lanes.proofs.block.with_length.Goals as goal

pub returns-clause-low : goal.returns-clause-low
returns-clause-low c = λ i lt. rw c.write_at.ensures (put_below c.args.block _ 56 i lt (omega arith))

pub returns-clause-high : goal.returns-clause-high
returns-clause-high c = λ i lt.
    let bytes = c.to_be_bytes.result in
    rw c.write_at.ensures (put_in c.args.block bytes (drop (56 + length bytes) c.args.block) 56 i (omega arith) (omega arith)
    ∙ ap (λ (x : List ℕ). slice_index x i) c.to_be_bytes.ensures)
