use Rattle.std.proofs.Common.{[], false, inr, arith}
use Rattle.std.proofs.lemmas.Grind.{common_steps}
use Rattle.tl_http.proofs.BodyLemmas.{begun_past, rest_past}
use Rattle.tl_device.proofs.ReadLemmas.{gave_none}
use Rattle.tl_http.proofs.body.read_rest.Goals as goal

pub returns-then-begun-limit : goal.returns-then-begun-limit
returns-then-begun-limit g c = inr (record {
  bytes = [];
  ended = false;
  gave = gave_none _ _;
  so = λ rest may. begun_past c.args.begun.now rest c.args.limit c.if-begun-limit.true;
})

pub returns-in-Some-false : goal.returns-in-Some-false
returns-in-Some-false g c = rest_past _ _ _ _ _ _ _ _ _ c.in-Full.ensures (rw c.in-Some-false.field-0-test at c.in-Some-false.ensures)

pub returns-in-NoMemory : goal.returns-in-NoMemory
returns-in-NoMemory g c = grind (arith, common_steps)
