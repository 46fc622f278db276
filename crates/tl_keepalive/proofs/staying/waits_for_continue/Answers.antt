use Rattle.std.proofs.Common.{sym, true≢false}
use Rattle.tl_keepalive.proofs.Stayings.{waited, waits}
use Rattle.tl_keepalive.proofs.staying.waits_for_continue.Goals as goal

pub returns-then-facts-bytes : goal.returns-then-facts-bytes
returns-then-facts-bytes c =
    (λ x. absurd (true≢false (sym x)), λ is. absurd (c.if-facts-bytes.true (waited c.args.bytes.now c.in-Some.facts c.in-Some.ensures is).0))

pub returns-then-facts-ne1 : goal.returns-then-facts-ne1
returns-then-facts-ne1 c =
    (λ x. absurd (true≢false (sym x)), λ is. absurd (c.if-facts-ne1.true (waited c.args.bytes.now c.in-Some.facts c.in-Some.ensures is).1))

pub returns : goal.returns
returns c = (
  λ expects. waits c.args.bytes.now c.in-Some.facts c.in-Some.ensures c.if-facts-bytes.false c.if-facts-ne1.false expects,
  λ is. (waited c.args.bytes.now c.in-Some.facts c.in-Some.ensures is).2,
)
