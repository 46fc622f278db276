use Rattle.std.proofs.Common.{fold, sym, ◌∙◌, arith}
use Rattle.std.proofs.lemmas.Grind.{common_steps}
use Rattle.tl_publisher.specs.Stages.{moved}
use Rattle.tl_publisher.proofs.Stages.{ok_values}
use Rattle.tl_publisher.proofs.board_writer.shown.Goals as goal

pub published-next-requires-clause-shown : goal.published-next-requires-clause-shown
published-next-requires-clause-shown g c = rw (c.loop.invariant.1, c.loop.invariant.2) c.requires.shown

pub published-next-requires-clause-book : goal.published-next-requires-clause-book
published-next-requires-clause-book g c = rw (c.loop.invariant.1, c.loop.invariant.2) c.requires.book

pub returns-then-is_ok-clause-value : goal.returns-then-is_ok-clause-value
returns-then-is_ok-clause-value g c =
    let inv = c.loop.invariant in
    let done = ok_values c.published-next.result.1 _ _ (sym c.is_ok.ensures.value ∙ c.if-is_ok.true) c.published-next.ensures.values in
    done.0 ∙ (λ i. fold moved (inv.1 i) (inv.2 i))

pub loop-preserved : goal.loop-preserved
loop-preserved g c = grind (arith, common_steps)

pub returns-then-is_ok-clause-pending : goal.returns-then-is_ok-clause-pending
returns-then-is_ok-clause-pending g c = grind (arith, common_steps)

pub returns-then-is_ok-clause-view : goal.returns-then-is_ok-clause-view
returns-then-is_ok-clause-view g c = grind (arith, common_steps)
