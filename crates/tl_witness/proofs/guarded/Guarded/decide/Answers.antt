use Rattle.std.proofs.Common.{refl, ◌∙◌}
use Rattle.std.proofs.lemmas.Result.{IfOk-weaker}
use Rattle.tl_witness.specs.Inner.Offer.{asked_by}
use Rattle.tl_witness.proofs.ChainLaws.{line_made}
use Rattle.tl_witness.proofs.SharedLaws.{begins_same, begins_still, decided_between, later_chain}
use Rattle.tl_witness.proofs.guarded.Guarded.decide.Goals as goal

pub leave-change-requires : goal.leave-change-requires
leave-change-requires g c = record {
  fits = rw c.enter-turn.ensures.lock (begins_still g.T.TreeHash.digest_of (asked_by c.args.offer c.args.time) c.answer-reply.result _ c.args.self.now.chain.slot.value c.enter-turn.result.1 c.answer-reply.new.chain _
      c.enter-turn.ensures.fits (line_made _ c.requires) c.answer-reply.ensures.ok c.answer-reply.ensures.err (λ x. refl) (λ x. refl));
  grows = begins_still g.T.TreeHash.digest_of (asked_by c.args.offer c.args.time) c.answer-reply.result _ c.enter-turn.result.0.before.value c.enter-turn.result.1 c.answer-reply.new.chain _
      (begins_same _ _ c.enter-turn.ensures.before) (line_made _ c.requires) c.answer-reply.ensures.ok c.answer-reply.ensures.err (λ x. refl) (λ x. refl);
}

pub returns-clause-later : goal.returns-clause-later
returns-clause-later g c = later_chain g.T.TreeHash.digest_of c.args.self.now.chain.slot.value _ (rw (c.leave-change.ensures.before, c.enter-turn.ensures.before) c.enter-turn.ensures.fits) (rw (c.leave-change.ensures.before, c.enter-turn.ensures.before) c.is_chain.ensures)

pub returns-clause-ok : goal.returns-clause-ok
returns-clause-ok g c =
    IfOk-weaker c.answer-reply.result _ _ (λ reply decided. decided_between g.T.TreeHash.digest_of (asked_by c.args.offer c.args.time) _ _ _ _ _ _ _ c.leave-change.result.before.value c.leave-change.result.after.value c.enter-turn.result.1 c.answer-reply.new.chain (c.leave-change.ensures.before ∙ c.enter-turn.ensures.before) c.leave-change.ensures.after decided) c.answer-reply.ensures.ok

pub returns-clause-err : goal.returns-clause-err
returns-clause-err g c = rw (c.leave-change.ensures.after, c.leave-change.ensures.before, c.enter-turn.ensures.before) c.answer-reply.ensures.err
