use Rattle.std.proofs.lemmas.List.{take_all}
use Rattle.tl_proof.specs.Acceptance.{step_of}
use Rattle.tl_witness.proofs.Moved.{copied_more}
use Rattle.tl_witness.proofs.guarded.copy_links.Goals as goal

pub loop-link-preserved : goal.loop-link-preserved
loop-link-preserved g c =
    copied_more step_of step_of c.args.links.now c.loop-link.link-index c.link-item.result c.loop-link.copies.items _ c.in_ok-copy_of.field-0 c.loop-link-test.true c.link-item.is
    c.loop-link.invariant c.in_ok-copy_of.ensures c.in_ok-push.ensures.items

pub returns : goal.returns
returns g c = rw (take_all c.loop-link.link-index c.args.links.now c.loop-link-test.false) at c.loop-link.invariant
