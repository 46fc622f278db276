use Rattle.std.proofs.Common.{rules, arith}
use Rattle.std.proofs.lemmas.Grind.{common_steps}
use Rattle.tl_logs.specs.ReadState.{head_shown}
use Rattle.tl_logs.proofs.WholeLaws.{all_chains}
use Rattle.tl_logs.proofs.head.whole_chains.Goals as goal

pub returns : goal.returns
returns g c = all_chains (λ o. head_shown o) c.args.heads.items _ _ (search rules) c.loop-head.invariant.2

pub loop-head-preserved : goal.loop-head-preserved
loop-head-preserved g c = grind (arith, common_steps)

pub loop-head-preserved-derived : goal.loop-head-preserved-derived
loop-head-preserved-derived g c = grind (arith, common_steps)
