use Rattle.std.proofs.Common.{◌≤◌, ◌-◌, length, refl, take, arith}
use Rattle.tl_device.proofs.ReadLemmas.{gave_end, take_read}
use Rattle.tl_server.proofs.ReadLemmas.{grown_none, grown_more, grown_short, grown_whole}
use Rattle.tl_server.proofs.body.fill.Goals as goal

pub loop-len-init : goal.loop-len-init
loop-len-init g c = record { within = c.requires; grown = grown_none _ _ _ _ refl }

pub loop-len-preserved : goal.loop-len-preserved
loop-len-preserved g c =
    let buf = c.loop-len.auto.buf in
    let part = c.read_some.auto.buf in
    let bound = c.in-Some.ensures.bound in
    let in_buf : c.loop-len.len ≤ length c.loop-len.buf = omega (arith, c.loop-len-test.true) in
    record {
      within = omega (arith, buf, part, bound, c.loop-len-test.true);
      grown = grown_more _ _ _ _ _ _ _ _ _ _ c.loop-len.invariant.grown c.in-Some.ensures.consumed c.in-Some.ensures.steady
          (take_read c.loop-len.len (length c.loop-len.buf - c.loop-len.len) c.in-Some.n c.loop-len.buf c.read_some.new.buf in_buf bound);
    }

pub returns-then-n-eq0 : goal.returns-then-n-eq0
returns-then-n-eq0 g c =
    let buf = c.loop-len.auto.buf in
    let part = c.read_some.auto.buf in
    let at_end = c.in-Some.ensures.ended c.if-n-eq0.true (omega (arith, part, c.loop-len-test.true)) in
    record {
      bytes = c.loop-len.invariant.grown.bytes;
      gave = gave_end _ _ _ _ _ _ _ _ _ c.loop-len.invariant.grown.gave c.if-n-eq0.true c.in-Some.ensures.consumed at_end c.in-Some.ensures.steady;
      short = grown_short c.loop-len.len _ (take c.args.from c.args.buf.now) c.loop-len.invariant.grown.bytes _ c.loop-len.invariant.grown.joined c.loop-len-test.true buf;
    }

pub returns : goal.returns
returns g c = grown_whole _ _ _ c.loop-len.len c.loop-len-test.false c.loop-len.invariant.grown
