use Rattle.std.proofs.Common.{◌<◌, ◌≤◌, length, refl, ◌∙◌, arith}
use Rattle.std.proofs.lemmas.Grind.{common_steps}
use Rattle.tl_witness.proofs.ProofLines.{reads_more, more_left, all_read}
use Rattle.tl_witness.proofs.request.read_hashes.Goals as goal

pub push_reserved-requires : goal.push_reserved-requires
push_reserved-requires g c =
    let has = c.requires.1 in
    let hash = c.in-Some.ensures in
    let less : length c.loop-read.hashes.items < length has.0 = more_left c.args.text.now c.loop-read.left.now c.requires.0 c.in-Some.read.1.now c.in-Some.read.0 c.loop-read.hashes.items has.0 c.loop-read.invariant.0 has.1 hash.0 hash.1 in
    omega (arith, less, has.2, c.loop-read.invariant.1, c.loop-read.hashes.ok.0)

pub loop-read-preserved : goal.loop-read-preserved
loop-read-preserved g c =
    let has = c.requires.1 in
    let hash = c.in-Some.ensures in
    let few : length has.0 ≤ 63 = has.1.few in
    let less : length c.loop-read.hashes.items < length has.0 = more_left c.args.text.now c.loop-read.left.now c.requires.0 c.in-Some.read.1.now c.in-Some.read.0 c.loop-read.hashes.items has.0 c.loop-read.invariant.0 has.1 hash.0 hash.1 in
    let read = reads_more c.args.text.now c.loop-read.left.now _ c.in-Some.read.1.now c.in-Some.read.0 c.loop-read.hashes.items c.loop-read.invariant.0 (omega (arith, less, few)) hash.0 hash.1 refl hash.2 in
    (rw c.push_reserved.ensures.items read, c.push_reserved.ensures.capacity ∙ c.loop-read.invariant.1)

pub returns-clause-read : goal.returns-clause-read
returns-clause-read g c = λ proof note is.
    c.from_vec.ensures ∙ all_read c.args.text.now c.loop-read.left.now note c.loop-read.hashes.items proof c.loop-read.invariant.0 is (rw c.in_default.is at c.next_hash.ensures)

pub loop-read-init : goal.loop-read-init
loop-read-init g c = grind (arith, common_steps)

pub loop-read-smaller : goal.loop-read-smaller
loop-read-smaller g c = grind (arith, common_steps)

pub returns-clause-refused : goal.returns-clause-refused
returns-clause-refused g c = grind (arith, common_steps)

pub returns-in_err-hashes-clause-refused : goal.returns-in_err-hashes-clause-refused
returns-in_err-hashes-clause-refused g c = grind (arith, common_steps)
