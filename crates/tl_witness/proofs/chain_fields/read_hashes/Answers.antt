use Rattle.std.proofs.Common.{◌<◌, length, ◌∙◌, arith}
use Rattle.std.proofs.lemmas.Grind.{common_steps}
use Rattle.tl_witness.proofs.HashFields.{goes_on, reads_more, all_read}
use Rattle.tl_witness.proofs.chain_fields.read_hashes.Goals as goal

pub unreachable-requires : goal.unreachable-requires
unreachable-requires g c =
    let room : length c.loop-left.hashes.items < c.args.count = omega (arith, c.loop-left.hashes.ok.0) in
    goes_on c.args.count c.args.text.now c.loop-left.left.now c.requires.0 c.loop-left.hashes.items c.loop-left.invariant room (rw c.in_default.is at c.hash_field.ensures) c.requires.1

pub loop-left-preserved : goal.loop-left-preserved
loop-left-preserved g c =
    let room : length c.loop-left.hashes.items < c.args.count = omega (arith, c.loop-left.hashes.ok.0) in
    let is = c.in-Some.ensures in
    let read = reads_more c.args.count c.args.text.now c.loop-left.left.now c.in-Some.read.1.now c.in-Some.read.0 c.loop-left.hashes.items c.loop-left.invariant room is.0 is.1 is.2 in
    rw c.in_ok-push.ensures.items read

pub returns : goal.returns
returns g c = λ hashes rest is.
    c.from_vec.ensures ∙ all_read c.args.count c.args.text.now c.loop-left.left.now c.loop-left.hashes.items hashes rest c.loop-left.invariant (omega (arith, c.loop-left.hashes.ok.0)) is

pub loop-left-init : goal.loop-left-init
loop-left-init g c = grind (arith, common_steps)
