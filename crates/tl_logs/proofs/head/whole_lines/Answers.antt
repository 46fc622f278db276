use Rattle.std.proofs.Common.{rules, arith}
use Rattle.std.proofs.lemmas.Grind.{common_steps}
use Rattle.tl_proof.specs.Acceptance.{step_of}
use Rattle.tl_logs.specs.ReadState.{head_shown}
use Rattle.tl_logs.proofs.WholeLaws.{all_written, line_at}
use Rattle.tl_logs.proofs.head.whole_lines.Goals as goal

pub write_chain_line-requires : goal.write_chain_line-requires
write_chain_line-requires g c =
    line_at (λ o. head_shown o) c.args.heads.now c.loop-head.head-index c.head-item.result c.as_str.result.now (step_of c.link.result) c.loop-head-test.true c.head-item.is c.requires
    c.as_str.ensures.value c.link.ensures

pub returns-clause-text : goal.returns-clause-text
returns-clause-text g c = all_written (λ o. head_shown o) c.args.heads.now c.loop-head.head-index _ (search rules) c.loop-head.invariant

pub loop-head-preserved : goal.loop-head-preserved
loop-head-preserved g c = grind (arith, common_steps)
