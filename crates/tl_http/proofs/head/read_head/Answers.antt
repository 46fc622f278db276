use Rattle.std.proofs.Common.{◌≤◌, ◌∙◌, length, take, true, false, arith}
use Rattle.std.proofs.lemmas.Grind.{common_steps}
use Rattle.std.proofs.lemmas.List.{length-take-le}
use Rattle.tl_http.proofs.HeadLaws.{refused_input, ended_input, long_input}
use Rattle.tl_http.proofs.PassedLemmas.{head_within, passed_more, passed_grown, put_length}
use Rattle.tl_device.proofs.ReadLemmas.{gave_more, gave_end}
use Rattle.tl_http.proofs.head.read_head.Goals as goal

pub returns-in-Refused : goal.returns-in-Refused
returns-in-Refused g c = record {
  bytes = take c.heads.len c.heads.buf;
  ended = false;
  gave = c.heads.invariant.gave;
  so = refused_input c.heads.buf c.heads.start c.heads.len false c.heads.invariant.passed c.in-Refused.ensures;
}

pub heads-smaller-in-Whole : goal.heads-smaller-in-Whole
heads-smaller-in-Whole g c =
    let whole = c.heads.invariant.whole in
    let within = c.heads.invariant.within in
    let inside = head_within c.heads.buf _ c.heads.start c.heads.len c.in-Whole.spans c.heads.invariant.ordered (omega (arith, whole, within)) c.in-Whole.ensures.0 c.in-Whole.ensures.1 in
    omega (arith, inside.0, inside.1, within)

pub heads-preserved-in-Whole : goal.heads-preserved-in-Whole
heads-preserved-in-Whole g c =
    let whole = c.heads.invariant.whole in
    let within = c.heads.invariant.within in
    let inside = head_within c.heads.buf _ c.heads.start c.heads.len c.in-Whole.spans c.heads.invariant.ordered (omega (arith, whole, within)) c.in-Whole.ensures.0 c.in-Whole.ensures.1 in
    record {
      whole = whole;
      ordered = inside.0;
      within = within;
      gave = c.heads.invariant.gave;
      passed = passed_more c.heads.buf c.parse.new.headers c.heads.start c.heads.len c.in-Whole.spans c.heads.invariant.passed
          (omega (arith, c.parse.auto.headers, c.heads.auto.headers, c.requires.fields)) c.in-Whole.ensures.1
          (c.is_interim.ensures.0 c.if-not-is_interim.false);
    }

pub returns-then-len-buf : goal.returns-then-len-buf
returns-then-len-buf g c =
    let whole = c.heads.invariant.whole in
    let long = length-take-le c.heads.len c.heads.buf (omega (arith, whole, c.heads.invariant.within)) in
    record {
      bytes = take c.heads.len c.heads.buf;
      ended = false;
      gave = c.heads.invariant.gave;
      so = long_input c.heads.buf c.heads.start c.heads.len false (omega (arith, long, whole, c.if-len-buf.true)) c.heads.invariant.passed c.in-Partial.ensures;
    }

pub returns-then-n-eq0 : goal.returns-then-n-eq0
returns-then-n-eq0 g c =
    let whole = c.heads.invariant.whole in
    let within = c.heads.invariant.within in
    let part = c.read_some.auto.buf in
    let at_end = c.in-Some.ensures.ended c.if-n-eq0.true (omega (arith, part, whole, within, c.if-len-buf.false)) in
    record {
      bytes = take c.heads.len c.heads.buf;
      ended = true;
      gave = gave_end _ _ _ _ _ _ _ _ _ c.heads.invariant.gave c.if-n-eq0.true c.in-Some.ensures.consumed at_end c.in-Some.ensures.steady;
      so = ended_input c.heads.buf c.heads.start c.heads.len c.heads.invariant.passed c.in-Partial.ensures;
    }

pub heads-preserved : goal.heads-preserved
heads-preserved g c =
    let whole = c.heads.invariant.whole in
    let within = c.heads.invariant.within in
    let ordered = c.heads.invariant.ordered in
    let part = c.read_some.auto.buf in
    let bound = c.in-Some.ensures.bound in
    let inside : c.heads.len ≤ length c.heads.buf = omega (arith, whole, within) in
    record {
      whole = put_length c.heads.buf c.read_some.new.buf c.heads.len inside part ∙ whole;
      ordered = omega (arith, ordered);
      within = omega (arith, part, bound, whole, within);
      gave = gave_more _ _ _ _ _ _ _ _ _ _ _ inside bound c.heads.invariant.gave c.in-Some.ensures.consumed c.in-Some.ensures.steady;
      passed = passed_grown c.heads.buf c.read_some.new.buf c.heads.start c.heads.len _ c.in-Some.n ordered inside bound c.heads.invariant.passed;
    }

pub returns-then-not-is_interim : goal.returns-then-not-is_interim
returns-then-not-is_interim g c = grind (arith, common_steps)
