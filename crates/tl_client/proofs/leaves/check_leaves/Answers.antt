use Rattle.std.proofs.Common.{arith, map, vec_items}
use Rattle.std.proofs.lemmas.List.{length-map}
use Rattle.tl_client.proofs.FourLeaves.{leaves_join, leaves_none}
use Rattle.tl_client.proofs.leaves.check_leaves.Goals as goal

pub loop-done-init : goal.loop-done-init
loop-done-init g c = leaves_none 0 0 (map vec_items c.args.entries.now) c.args.leaves.now (omega arith)

pub loop-done-preserved : goal.loop-done-preserved
loop-done-preserved g c = leaves_join 0 c.loop-done.done c.in-Ok.next (map vec_items c.args.entries.now) c.args.leaves.now c.loop-done.invariant c.in-Ok.ensures.leaves

pub returns-clause-leaves : goal.returns-clause-leaves
returns-clause-leaves g c i less =
    c.loop-done.invariant i (omega arith) (omega (arith, less, length-map c.args.entries.now vec_items, c.loop-done-test.false))
