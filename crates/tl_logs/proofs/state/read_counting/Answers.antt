use Rattle.std.proofs.Common.{rules, arith}
use Rattle.std.proofs.lemmas.Grind.{common_steps}
use Rattle.tl_logs.specs.Inner.Counting.{counts_of}
use Rattle.tl_logs.specs.ReadState.{heads_shown}
use Rattle.tl_logs.proofs.StateLaws.{come_more, come_none, come_refused, come_small, ends_ill, ends_well}
use Rattle.tl_logs.proofs.state.read_counting.Goals as goal

pub loop-count-init : goal.loop-count-init
loop-count-init g c = rw c.new-reading.ensures (come_none g.T.TreeHash.digest_of (counts_of c.args.counting.now) _ _)

pub returns-then-some-eq0-clause-heads : goal.returns-then-some-eq0-clause-heads
returns-then-some-eq0-clause-heads g c =
    ends_well g.T.TreeHash.digest_of (counts_of c.args.counting.now) _ _ _ _ _ _ c.loop-count.count c.loop-count.reading c.loop-count.invariant c.in-Some.some c.read_some.new.buf
    c.in-Some.ensures.bound c.in-Some.ensures.consumed c.in-Some.ensures.steady c.end.result (λ heads. heads_shown heads.items) (search rules) (c.in-Some.ensures.ended (search rules) (search rules)) c.end.ensures.heads

pub returns-then-some-eq0-clause-refused : goal.returns-then-some-eq0-clause-refused
returns-then-some-eq0-clause-refused g c =
    ends_ill g.T.TreeHash.digest_of (counts_of c.args.counting.now) _ _ _ _ _ _ c.loop-count.count c.loop-count.reading c.loop-count.invariant c.in-Some.some c.read_some.new.buf
    c.in-Some.ensures.bound c.in-Some.ensures.consumed c.in-Some.ensures.steady c.end.result (search rules) c.end.ensures.begun

pub returns-in-Err-clause-refused : goal.returns-in-Err-clause-refused
returns-in-Err-clause-refused g c =
    let small = come_small g.T.TreeHash.digest_of (counts_of c.args.counting.now) _ _ _ _ _ _ c.loop-count.count c.loop-count.reading c.loop-count.invariant c.in-Some.some c.read_some.new.buf
    c.in-Some.ensures.bound c.in-Some.ensures.consumed c.in-Some.ensures.steady (search rules) c.loop-count-test.true in
    come_refused g.T.TreeHash.digest_of (counts_of c.args.counting.now) _ _ _ _ _ _ c.loop-count.count c.loop-count.reading c.loop-count.invariant c.in-Some.some c.read_some.new.buf
    c.in-Some.ensures.bound c.in-Some.ensures.consumed c.in-Some.ensures.steady c.in-Err.fault
    (c.in-Err.ensures c.loop-count.invariant.input small c.loop-count.invariant.read)

pub loop-count-preserved : goal.loop-count-preserved
loop-count-preserved g c =
    let small = come_small g.T.TreeHash.digest_of (counts_of c.args.counting.now) _ _ _ _ _ _ c.loop-count.count c.loop-count.reading c.loop-count.invariant c.in-Some.some c.read_some.new.buf
    c.in-Some.ensures.bound c.in-Some.ensures.consumed c.in-Some.ensures.steady (search rules) c.loop-count-test.true in
    come_more g.T.TreeHash.digest_of (counts_of c.args.counting.now) _ _ _ _ _ _ c.loop-count.count c.loop-count.reading c.loop-count.invariant c.in-Some.some c.read_some.new.buf
    c.in-Some.ensures.bound c.in-Some.ensures.consumed c.in-Some.ensures.steady c.take_block.new.self
    (c.in-Ok.ensures c.loop-count.invariant.input small c.loop-count.invariant.read)

pub returns-in-Err-clause-heads : goal.returns-in-Err-clause-heads
returns-in-Err-clause-heads g c = grind (arith, common_steps)

pub returns-in_default-clause-heads : goal.returns-in_default-clause-heads
returns-in_default-clause-heads g c = grind (arith, common_steps)

pub returns-in_default-clause-refused : goal.returns-in_default-clause-refused
returns-in_default-clause-refused g c = grind (arith, common_steps)
