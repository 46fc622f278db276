use borrow.Rule.Slice.PartMut.{put_mid}
use Rattle.std.proofs.Common.{◌≡◌, ◌+◌, ◌-◌, ◌≤◌, length, length-append, take, true, false, arith}
use Rattle.std.proofs.lemmas.List.{length-take-le}
use Rattle.tl_server.proofs.HeadLaws.{no_request, refused_input, ended_input, long_input}
use Rattle.tl_device.proofs.ReadLemmas.{gave_more, gave_end, gave_none, take_read}
use Rattle.tl_server.proofs.head.read_head.Goals as goal

pub loop-len-init : goal.loop-len-init
loop-len-init g c = record { within = omega arith; gave = gave_none _ _; none = no_request; goes_on = λ some. absurd (omega (arith, some)) }

pub returns-else-len-eq0 : goal.returns-else-len-eq0
returns-else-len-eq0 g c =
    let buf = c.loop-len.auto.buf in
    let part = c.read_some.auto.buf in
    let within = c.loop-len.invariant.within in
    let long = length-take-le c.loop-len.len c.loop-len.buf (omega (arith, buf, c.requires.bytes, within)) in
    let at_end = c.in-Some.ensures.ended c.if-n-eq0.true (omega (arith, part, c.loop-len-test.true)) in
    record {
      bytes = take c.loop-len.len c.loop-len.buf;
      ended = true;
      gave = gave_end _ _ _ _ _ _ _ _ _ c.loop-len.invariant.gave c.if-n-eq0.true c.in-Some.ensures.consumed at_end c.in-Some.ensures.steady;
      so = ended_input _ (omega (arith, long, c.if-len-eq0.false)) (omega (arith, long, buf, c.requires.bytes, c.loop-len-test.true)) c.loop-len.invariant.none;
    }

pub returns-in-Whole : goal.returns-in-Whole
returns-in-Whole g c =
    let buf = c.loop-len.auto.buf in
    let part = c.read_some.auto.buf in
    let bound = c.in-Some.ensures.bound in
    record {
      fits = omega (arith, buf, part, bound, c.requires.bytes, c.loop-len-test.true);
      room = omega (arith, c.parse.auto.headers, c.loop-len.auto.headers, c.requires.fields);
      gave = gave_more _ _ _ _ _ _ _ _ _ _ _ (omega (arith, c.loop-len-test.true)) bound c.loop-len.invariant.gave c.in-Some.ensures.consumed c.in-Some.ensures.steady;
      within = c.in-Whole.ensures.0;
      of = c.in-Whole.ensures.1;
    }

pub loop-len-preserved : goal.loop-len-preserved
loop-len-preserved g c =
    let buf = c.loop-len.auto.buf in
    let part = c.read_some.auto.buf in
    let bound = c.in-Some.ensures.bound in
    record {
      within = omega (arith, buf, part, bound, c.requires.bytes, c.loop-len-test.true);
      gave = gave_more _ _ _ _ _ _ _ _ _ _ _ (omega (arith, c.loop-len-test.true)) bound c.loop-len.invariant.gave c.in-Some.ensures.consumed c.in-Some.ensures.steady;
      none = c.in-Partial.ensures.0;
      goes_on = λ some. c.in-Partial.ensures.1;
    }

pub returns-in-Refused : goal.returns-in-Refused
returns-in-Refused g c =
    let buf = c.loop-len.auto.buf in
    let part = c.read_some.auto.buf in
    let bound = c.in-Some.ensures.bound in
    let in_buf : c.loop-len.len ≤ length c.loop-len.buf = omega (arith, c.loop-len-test.true) in
    let same = take_read c.loop-len.len (length c.loop-len.buf - c.loop-len.len) c.in-Some.n c.loop-len.buf c.read_some.new.buf in_buf bound in
    let front = length-take-le c.loop-len.len c.loop-len.buf in_buf in
    let more = length-take-le c.in-Some.n c.read_some.new.buf bound in
    let whole : length (take (c.loop-len.len + c.in-Some.n) (put_mid c.loop-len.len (length c.loop-len.buf - c.loop-len.len) c.loop-len.buf c.read_some.new.buf)) ≡ c.loop-len.len + c.in-Some.n =
    rw same (omega (arith, length-append (take c.loop-len.len c.loop-len.buf) (take c.in-Some.n c.read_some.new.buf), front, more)) in
    record {
      bytes = take (c.loop-len.len + c.in-Some.n) (put_mid c.loop-len.len (length c.loop-len.buf - c.loop-len.len) c.loop-len.buf c.read_some.new.buf);
      ended = false;
      gave = gave_more _ _ _ _ _ _ _ _ _ _ _ in_buf bound c.loop-len.invariant.gave c.in-Some.ensures.consumed c.in-Some.ensures.steady;
      so = refused_input _ false (omega (arith, whole, c.if-n-eq0.false)) (omega (arith, whole, bound, part, buf, c.requires.bytes, c.loop-len-test.true)) c.in-Refused.ensures;
    }

pub returns : goal.returns
returns g c =
    let buf = c.loop-len.auto.buf in
    let within = c.loop-len.invariant.within in
    let full = c.loop-len-test.false in
    let long = length-take-le c.loop-len.len c.loop-len.buf (omega (arith, buf, c.requires.bytes, within)) in
    record {
      bytes = take c.loop-len.len c.loop-len.buf;
      ended = false;
      gave = c.loop-len.invariant.gave;
      so = long_input _ false (omega (arith, long, full, within, buf, c.requires.bytes)) c.loop-len.invariant.none
          (c.loop-len.invariant.goes_on (omega (arith, full, buf, c.requires.bytes)));
    }
