use Rattle.std.proofs.Common.{inl, inr, map, arith}
use Rattle.std.proofs.lemmas.Grind.{common_steps}
use Rattle.httparse.specs.Spans.{header_bytes}
use Rattle.tl_http.proofs.FramingLemmas.{unclear}
use Rattle.tl_http.proofs.framing.framing_in.Goals as goal

pub returns-in-Err : goal.returns-in-Err
returns-in-Err c =
    let fields = map (header_bytes c.args.buf.now) c.args.headers.now in
    inr (c.in-Err.ensures.0, inl (c.lacks_field.ensures.0 c.if-lacks_field.true), unclear fields c.in-Err.ensures.1)

pub returns : goal.returns
returns c = grind (arith, common_steps)

pub returns-in-Ok-None : goal.returns-in-Ok-None
returns-in-Ok-None c = grind (arith, common_steps)

pub returns-in-Ok-Some : goal.returns-in-Ok-Some
returns-in-Ok-Some c = grind (arith, common_steps)
