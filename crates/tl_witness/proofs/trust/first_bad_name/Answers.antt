use Rattle.std.proofs.Common.{refl}
use Rattle.std.proofs.lemmas.List.{take_all}
use Rattle.tl_note.specs.Key.{IsKeyName}
use Rattle.tl_witness.proofs.ListLaws.{all_more, first_fails}
use Rattle.tl_witness.proofs.trust.first_bad_name.Goals as goal

pub returns-then-not-has_named_cosigner : goal.returns-then-not-has_named_cosigner
returns-then-not-has_named_cosigner g c =
    first_fails g.N.HasKeys.cosigner_name IsKeyName c.args.trusts.now c.loop-i.i c.index-trusts-i.result
    c.loop-i-test.true c.index-trusts-i.is c.loop-i.invariant (λ is. let wrong = c.if-not-has_named_cosigner.ensures.1 is in absurd cc)

pub loop-i-preserved : goal.loop-i-preserved
loop-i-preserved g c =
    all_more g.N.HasKeys.cosigner_name IsKeyName c.args.trusts.now c.loop-i.i c.index-trusts-i.result
    c.loop-i-test.true c.index-trusts-i.is c.loop-i.invariant (c.if-not-has_named_cosigner.ensures.0 refl)

pub returns : goal.returns
returns g c = rw (take_all c.loop-i.i c.args.trusts.now c.loop-i-test.false) at c.loop-i.invariant
