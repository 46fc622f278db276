use Rattle.std.proofs.Common.{arith}
use Rattle.tl_witness.proofs.HashFields.{skips_none, skips_more, skips_all, no_skip}
use Rattle.tl_witness.proofs.chain_fields.skip_hashes.Goals as goal

pub loop-init : goal.loop-init
loop-init c = skips_none c.args.count c.args.text.now c.utf8.text

pub returns-in_default : goal.returns-in_default
returns-in_default c = no_skip c.args.count c.args.text.now c.loop.left.now c.loop.counter c.loop.invariant (omega arith) (rw c.in_default.is at c.hash_field.ensures)

pub loop-preserved : goal.loop-preserved
loop-preserved c =
    let hash = c.in-Some.ensures in
    skips_more c.args.count c.args.text.now c.loop.left.now c.in-Some.rest.now c.in-Some.field-0-0 c.loop.counter c.loop.invariant (omega arith) hash.0 hash.1 hash.2

pub returns : goal.returns
returns c = (skips_all c.args.count c.args.text.now c.loop.left.now c.loop.counter c.loop.invariant (omega arith), c.loop.invariant.read.utf8)
