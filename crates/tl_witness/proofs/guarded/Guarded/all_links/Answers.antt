use Rattle.std.proofs.Common.{sym, subst, ◌∙◌}
use Rattle.std.proofs.lemmas.Result.{IfOk-weaker}
use Rattle.tl_witness.specs.Runs.{IsLaterChain}
use Rattle.tl_witness.proofs.SharedLaws.{begins_same, later_chain}
use Rattle.tl_witness.proofs.guarded.Guarded.all_links.Goals as goal

pub leave-requires : goal.leave-requires
leave-requires g c = record {
  fits = rw c.enter-turn.ensures.lock c.enter-turn.ensures.fits;
  grows = begins_same _ _ c.enter-turn.ensures.before;
}

pub returns : goal.returns
returns g c =
    let later = later_chain g.T.TreeHash.digest_of c.args.self.now.chain.slot.value c.enter-turn.result.1 c.enter-turn.ensures.fits c.is_chain.ensures in
    IfOk-weaker c.copy_links-links.result _ _ (λ links same. subst (IsLaterChain g.T.TreeHash.digest_of c.args.self.now.chain.slot.value) (sym (same ∙ c.links.ensures)) later) c.copy_links-links.ensures
