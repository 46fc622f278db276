use Rattle.std.proofs.Common.{arith}
use Rattle.std.proofs.lemmas.Grind.{common_steps}
use Rattle.tl_http.proofs.ClosingLemmas.{is_apart, none_further, stands_nowhere}
use Rattle.tl_http.proofs.persistence.names_close.Goals as goal

pub loop-start-preserved : goal.loop-start-preserved
loop-start-preserved c =
    none_further c.args.value.now c.loop-start.start c.loop-start.invariant (λ at. is_apart c.names_close_at.result (c.names_close_at.ensures.close.1 at) c.if-names_close_at.false)

pub returns : goal.returns
returns c = record {
  close = stands_nowhere c.args.value.now c.loop-start.start (omega (arith, c.loop-start-test.false)) c.loop-start.invariant;
}

pub returns-then-names_close_at : goal.returns-then-names_close_at
returns-then-names_close_at c = grind (arith, common_steps)
