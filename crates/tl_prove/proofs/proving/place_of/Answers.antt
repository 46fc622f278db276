use Rattle.std.proofs.Common.{◌∙◌}
use Rattle.tl_prove.proofs.Others.{one_more}
use Rattle.tl_prove.proofs.proving.place_of.Goals as goal

pub loop-place-preserved : goal.loop-place-preserved
loop-place-preserved c =
    one_more c.args.entries.now c.args.entry.now c.loop-place.place c.index-entries-place.result c.loop-place-test.true c.index-entries-place.is
    (λ is. c.if-is_same.ensures (c.as_slice.ensures.value ∙ is)) c.loop-place.invariant
