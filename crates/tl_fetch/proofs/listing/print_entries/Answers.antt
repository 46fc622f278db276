use Rattle.std.proofs.Common.{arith, refl, subst, ◌∙◌, ◌/◌}
use Rattle.std.proofs.lemmas.Grind.{common_steps}
use Rattle.tl_client.proofs.LeafReads.{none_passed}
use Rattle.tl_device.specs.Device.{passage}
use Rattle.tl_fetch.specs.Entries.{RefusesBundle}
use Rattle.tl_fetch.specs.Printed.{FailsPrinting}
use Rattle.tl_fetch.proofs.ListingLemmas.{refuses_all, printed_further, printed_some, printing_none}
use Rattle.tl_fetch.proofs.listing.print_entries.Goals as goal

pub returns-in-Err-clause-part : goal.returns-in-Err-clause-part
returns-in-Err-clause-part g c = printed_some c.args.head.now c.args.from _ _ _ (record { bytes = refl; failed = refl }) c.loop-next.invariant.0.printed c.in-Err.ensures.part

pub returns-in-Err-clause-refused : goal.returns-in-Err-clause-refused
returns-in-Err-clause-refused g c =
    let head = c.args.head.now in
    let answers = g.S.ResourceSource.may_answer in
    let lacks = g.S.ResourceSource.may_lack in
    let o = passage g.W.Write.contents c.args.writer.now c.loop-next.writer in
    let p = passage g.W.Write.contents c.loop-next.writer c.print_bundle.new.writer in
    refuses_all (answers c.args.source.now) (lacks c.args.source.now) head c.args.from c.loop-next.next c.in-Err.fault o p c.loop-next.invariant.0 c.loop-next-test.true
    (subst (λ s. FailsPrinting (RefusesBundle (answers s) (lacks s) head (c.loop-next.next / 256)) c.in-Err.fault p) (c.reach.ensures ∙ c.loop-next.invariant.2) c.in-Err.ensures.refused)

pub loop-next-preserved : goal.loop-next-preserved
loop-next-preserved g c = (
  record {
    printed = printed_further c.args.head.now c.args.from _ _ _ _ (record { bytes = refl; failed = refl }) c.loop-next.invariant.0.printed c.in-Ok.ensures.printed;
    within = c.in-Ok.ensures.within;
  },
  c.in-Ok.ensures.passed,
  c.reach.ensures ∙ c.loop-next.invariant.2,
)

pub loop-next-init : goal.loop-next-init
loop-next-init g c = (
  printing_none c.args.head.now c.args.from _ _ (omega (arith, c.if-from-head.false)),
  none_passed c.args.head.now.size c.args.head.now.root c.new-kept.result c.new-kept.ensures,
  c.new-ahead.ensures.window,
)

pub loop-next-smaller : goal.loop-next-smaller
loop-next-smaller g c = grind (arith, common_steps)

pub returns-clause-part : goal.returns-clause-part
returns-clause-part g c = grind (arith, common_steps)

pub returns-clause-printed : goal.returns-clause-printed
returns-clause-printed g c = grind (arith, common_steps)

pub returns-clause-refused : goal.returns-clause-refused
returns-clause-refused g c = grind (arith, common_steps)

pub returns-then-from-head-clause-part : goal.returns-then-from-head-clause-part
returns-then-from-head-clause-part g c = grind (arith, common_steps)

pub returns-then-from-head-clause-refused : goal.returns-then-from-head-clause-refused
returns-then-from-head-clause-refused g c = grind (arith, common_steps)

pub same-kept : goal.same-kept
same-kept g c = grind (arith, common_steps)
