use Rattle.std.proofs.Common.{◌≡◌, true, false, refl}
use Rattle.std.proofs.lemmas.List.{take_all}
use Rattle.tl_logs.specs.LogsFile.{key_name}
use Rattle.tl_logs.proofs.ListLaws.{among_here, apart_more}
use Rattle.tl_logs.proofs.placing.has_key.Goals as goal

pub loop-i-init : goal.loop-i-init
loop-i-init g c = λ none. none

pub returns-then-is_same : goal.returns-then-is_same
returns-then-is_same g c = (
  λ _. among_here key_name c.args.keys.now c.loop-i.i c.index-keys-i.result (key_name c.args.key.now) c.loop-i-test.true c.index-keys-i.is (c.if-is_same.ensures.0 refl),
  λ _. refl,
)

pub loop-i-preserved : goal.loop-i-preserved
loop-i-preserved g c =
    apart_more key_name c.args.keys.now c.loop-i.i c.index-keys-i.result (key_name c.args.key.now) c.loop-i-test.true c.index-keys-i.is
    (λ same. let t : false ≡ true = c.if-is_same.ensures.1 same in absurd cc) c.loop-i.invariant

pub returns : goal.returns
returns g c = (λ t. absurd cc, λ is. absurd ((rw (take_all c.loop-i.i c.args.keys.now c.loop-i-test.false) at c.loop-i.invariant) is))
