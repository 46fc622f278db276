use Rattle.std.proofs.Common.{[], ◌∷◌, ◌++◌, arith}
use Rattle.tl_tile.proofs.BundleLemmas.{has_read_none, has_read_more}
use Rattle.tl_bucket.proofs.CommitEntries.{none_behind}
use Rattle.tl_bucket.proofs.commit.behind.Goals as goal

pub loop-init : goal.loop-init
loop-init c = ([], has_read_none c.args.bytes.now)

pub loop-preserved : goal.loop-preserved
loop-preserved c =
    let so_far = c.loop.invariant in
    (so_far.0 ++ c.in-Some.field-0-0.now ∷ [], has_read_more c.args.bytes.now c.loop.counter so_far.0 c.loop.rest.now c.in-Some.field-0-0.now c.in-Some.after.now so_far.1 c.in-Some.ensures.0 c.in-Some.ensures.1)

pub returns-in_default : goal.returns-in_default
returns-in_default c = λ tail. none_behind c.loop.counter c.args.count c.args.bytes.now c.loop.rest.now tail c.loop.invariant.0 c.loop.invariant.1 (omega arith) c.in_default.ensures

pub returns : goal.returns
returns c =
    let so_far = c.loop.invariant in
    record { entries = so_far.0; short = so_far.1.short; counted = omega (arith, so_far.1.len); spelled = so_far.1.joined }
