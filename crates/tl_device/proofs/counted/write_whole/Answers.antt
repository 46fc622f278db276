use Rattle.std.proofs.Common.{◌∙◌, arith}
use Rattle.tl_device.proofs.BytesLemmas.{appends_further}
use Rattle.tl_device.proofs.counted.write_whole.Goals as goal

pub loop-at-preserved : goal.loop-at-preserved
loop-at-preserved g c = record {
  within = omega (arith, c.in-Some.ensures.bound);
  appended = appends_further _ _ _ c.args.text.now c.loop-at.at c.in-Some.n c.loop-at.invariant.appended c.in-Some.ensures.appended;
  steady = c.in-Some.ensures.steady ∙ c.loop-at.invariant.steady;
}
