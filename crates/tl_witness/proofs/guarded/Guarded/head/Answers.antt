use Rattle.tl_witness.proofs.SharedLaws.{begins_same, later_chain}
use Rattle.tl_witness.proofs.guarded.Guarded.head.Goals as goal

pub leave-requires : goal.leave-requires
leave-requires g c = record {
  fits = rw c.enter-turn.ensures.lock c.enter-turn.ensures.fits;
  grows = begins_same _ _ c.enter-turn.ensures.before;
}

pub returns : goal.returns
returns g c = (
  c.enter-turn.result.1,
  later_chain g.T.TreeHash.digest_of c.args.self.now.chain.slot.value c.enter-turn.result.1 c.enter-turn.ensures.fits c.is_chain.ensures,
  c.head-head.ensures.size,
  c.head-head.ensures.root,
)
