use Rattle.tl_policy.proofs.CosignedLaws.{times_more}
use Rattle.tl_policy.proofs.policy.Policy.cosigned_by.Goals as goal

pub loop-witness-preserved : goal.loop-witness-preserved
loop-witness-preserved g c =
    times_more c.args.text.now c.args.lines.now c.args.self.now.witnesses.items c.loop-witness.witness-index c.witness-item.result c.loop-witness.times.items c.push.new.self.items
    c.in_ok-first_time.field-0 (rw c.as_slice-witness-items.ensures.value at c.loop-witness-test.true) (rw c.as_slice-witness-items.ensures.value at c.witness-item.is)
    c.loop-witness.invariant c.in_ok-first_time.ensures c.in_ok-push.ensures.items
