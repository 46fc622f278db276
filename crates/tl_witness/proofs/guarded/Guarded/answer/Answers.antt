use Rattle.std.proofs.lemmas.Result.{IfOk-weaker, IfErr-weaker}
use Rattle.tl_witness.proofs.SharedLaws.{later_with}
use Rattle.tl_witness.proofs.guarded.Guarded.answer.Goals as goal

pub returns-clause-ok : goal.returns-clause-ok
returns-clause-ok g c =
    IfOk-weaker c.decide-reply.result.0 _ _ (λ reply decided. record {
      now = _;
      after = _;
      later = later_with g.T.TreeHash.digest_of _ c.decide-reply.result.1.before.value c.decide-reply.ensures.later;
      decided = decided;
    }) c.decide-reply.ensures.ok

pub returns-clause-err : goal.returns-clause-err
returns-clause-err g c = IfErr-weaker c.decide-reply.result.0 _ _ (λ fault same. same.0) c.decide-reply.ensures.err
