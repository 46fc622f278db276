use Rattle.std.proofs.Common.{arith}
use Rattle.std.proofs.lemmas.Grind.{common_steps}
use Rattle.std.proofs.lemmas.List.{length-take-le}
use Rattle.tl_http.proofs.DataLemmas.{data_short, data_unkept, data_more}
use Rattle.tl_http.proofs.chunks.read_data.Goals as goal

pub returns-in-Ended : goal.returns-in-Ended
returns-in-Ended g c = data_short _ _ _ _ _ _ _ _ _ _ _ _ c.loop-left.invariant.came c.in-Ended.ensures c.loop-left-test.true

pub returns-in_default : goal.returns-in_default
returns-in_default g c = data_unkept _ _ _ _ _ _ _ _ _ _ _ _ _ c.loop-left.invariant.came c.in-More.ensures.0 c.in-More.ensures.1 c.loop-left-test.true

pub loop-left-preserved : goal.loop-left-preserved
loop-left-preserved g c =
    let room = c.loop-left.invariant.room in
    let grown = c.in-Ok.ensures.len in
    let least = c.min-n.ensures in
    let taken = length-take-le c.min-n.result c.bytes-bytes.result.now (omega (arith, least)) in
    record {
      room = omega (arith, grown, taken, least, room);
      came = data_more _ _ _ _ _ _ _ _ c.refill.new.self c.bytes-bytes.result.now _ _ _ _ _ _ c.min-n.result c.loop-left.invariant.came c.in-More.ensures.0
          c.bytes-bytes.ensures least c.skip.ensures c.in-Ok.ensures.appended;
    }

pub returns : goal.returns
returns g c = grind (arith, common_steps)

pub skip-requires : goal.skip-requires
skip-requires g c = grind (arith, common_steps)
