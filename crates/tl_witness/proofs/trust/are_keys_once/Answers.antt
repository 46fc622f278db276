use Rattle.std.proofs.Common.{refl}
use Rattle.std.proofs.lemmas.List.{take_all}
use Rattle.tl_witness.specs.Open.{HasEachKeyOnce}
use Rattle.tl_witness.proofs.ListLaws.{all_more, all_fails}
use Rattle.tl_witness.proofs.trust.are_keys_once.Goals as goal

pub returns-then-not-has_each_key_once : goal.returns-then-not-has_each_key_once
returns-then-not-has_each_key_once g c = (
  λ f. absurd cc,
  λ each. absurd (all_fails g.N.HasKeys.keys HasEachKeyOnce c.args.trusts.now c.loop-i.i c.index-trusts-i.result c.loop-i-test.true c.index-trusts-i.is
      (λ is. let wrong = c.if-not-has_each_key_once.ensures.1 is in absurd cc) each),
)

pub loop-i-preserved : goal.loop-i-preserved
loop-i-preserved g c =
    all_more g.N.HasKeys.keys HasEachKeyOnce c.args.trusts.now c.loop-i.i c.index-trusts-i.result c.loop-i-test.true c.index-trusts-i.is c.loop-i.invariant
    (c.if-not-has_each_key_once.ensures.0 refl)

pub returns : goal.returns
returns g c = (λ _. rw (take_all c.loop-i.i c.args.trusts.now c.loop-i-test.false) at c.loop-i.invariant, λ _. refl)
