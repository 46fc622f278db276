use Rattle.std.proofs.Common.{◌≡◌, ◌<◌, List, ℕ, length, take, subst, sym, arith}
use Rattle.std.specs.Prelude.{◌≢◌}
use Rattle.tl_text.specs.Base64.{IsSpelled}
use Rattle.tl_text.proofs.Base64Lemmas.{ReadsOn, no_block, short_block, last_block, reads_block, is_refused}
use Rattle.tl_text.proofs.blocks.is_base64.Goals as goal

pub returns-in_default : goal.returns-in_default
returns-in_default c = is_refused (no_block c.args.text.now c.loop-left.left.now c.split_at.result.0.now c.loop-left.invariant c.split_at.ensures.front (rw c.in_default.is at c.decode_base64_block.ensures))

pub returns-then-block-ne-BLOCK_BYTES : goal.returns-then-block-ne-BLOCK_BYTES
returns-then-block-ne-BLOCK_BYTES c =
    let left = c.loop-left.left.now in
    let read = c.in-Some.ensures in
    let long : 8 < length left = omega arith in
    let short : length (take c.in-Some.block.count c.in-Some.block.bytes) ≢ 6 = λ six. absurd (omega (arith, six, read.counted)) in
    is_refused (short_block c.args.text.now left c.split_at.result.0.now (take c.in-Some.block.count c.in-Some.block.bytes) c.loop-left.invariant long c.split_at.ensures.front read.spelled short)

pub loop-left-preserved : goal.loop-left-preserved
loop-left-preserved c =
    let left = c.loop-left.left.now in
    let read = c.in-Some.ensures in
    let bytes = take c.in-Some.block.count c.in-Some.block.bytes in
    let long : 8 < length left = omega arith in
    let front : IsSpelled (take 8 left) bytes = subst (λ (s : List ℕ). IsSpelled s bytes) c.split_at.ensures.front read.spelled in
    let six : length bytes ≡ 6 = omega (arith, read.counted) in
    subst (ReadsOn c.args.text.now) (sym c.split_at.ensures.back) (reads_block c.args.text.now left bytes c.loop-left.invariant long front six)

pub returns : goal.returns
returns c = rw c.is_some.ensures (last_block c.args.text.now c.loop-left.left.now c.decode_base64_block-2.result c.loop-left.invariant c.decode_base64_block-2.ensures)
