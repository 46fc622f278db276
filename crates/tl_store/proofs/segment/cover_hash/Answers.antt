use Rattle.std.proofs.Common.{◌-◌, length, ◌∙◌, arith}
use Rattle.tl_store.proofs.Covering.{joins-none, joins-last, joins-next, joins-all}
use Rattle.tl_store.proofs.segment.cover_hash.Goals as goal

pub returns-then-count-eq0 : goal.returns-then-count-eq0
returns-then-count-eq0 g c = joins-none g.T.TreeHash.digest_of c.args.hashes.now c.empty_hash.result c.if-count-eq0.true c.empty_hash.ensures

pub returns : goal.returns
returns g c = joins-all g.T.TreeHash.digest_of c.args.hashes.now c.loop-count.count c.loop-count.root c.loop-count-test.false c.loop-count.invariant.joins

pub loop-count-init : goal.loop-count-init
loop-count-init g c = record {
  within = omega (arith, c.if-count-eq0.false);
  joins = joins-last g.T.TreeHash.digest_of c.args.hashes.now (length c.args.hashes.now - 1) c.index-hashes-count.result
      (omega (arith, c.if-count-eq0.false)) (omega arith) c.index-hashes-count.is;
}

pub loop-count-preserved : goal.loop-count-preserved
loop-count-preserved g c = record {
  within = omega (arith, c.loop-count.invariant.within);
  joins = λ entries start end indexes covering within from.
      c.node_hash-root.ensures
      ∙ joins-next g.T.TreeHash.digest_of c.args.hashes.now c.loop-count.count c.index-hashes-count-in-loop-count.result c.loop-count.root
      c.loop-count-test.true c.loop-count.invariant.within c.index-hashes-count-in-loop-count.is c.loop-count.invariant.joins entries start end indexes covering within from;
}
