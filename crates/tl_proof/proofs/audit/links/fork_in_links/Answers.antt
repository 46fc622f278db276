use Rattle.std.proofs.Common.{map, vec_items, arith}
use Rattle.tl_proof.specs.Acceptance.{step_of}
use Rattle.tl_proof.proofs.Chains.{ends_meet, start_meets}
use Rattle.tl_proof.proofs.audit.links.fork_in_links.Goals as goal

pub loop-count-init : goal.loop-count-init
loop-count-init g c = record {
  most = omega arith;
  root = ends_meet step_of vec_items g.T.TreeHash.digest_of c.args.links.now c.args.new.now c.args.old c.args.old_root c.requires.ends;
}

pub returns : goal.returns
returns g c =
    start_meets g.T.TreeHash.digest_of (map vec_items c.args.new.now) (map step_of c.args.links.now) c.loop-count.count c.args.old c.args.old_root
    c.loop-count-test.false c.loop-count.invariant.root
