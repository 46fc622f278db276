use Rattle.std.proofs.Common.{[], ◌∷◌, ◌++◌, arith, sym, subst}
use Rattle.std.proofs.lemmas.Bool.{eqb-true}
use Rattle.tl_tile.proofs.BundleLemmas.{HasRead, truncated_at, has_read_none, has_read_more, all_read}
use Rattle.tl_tile.proofs.bundle.check_bundle.Goals as goal

pub loop-init : goal.loop-init
loop-init c = ([], has_read_none c.args.bytes.now)

pub loop-preserved : goal.loop-preserved
loop-preserved c =
    let read = c.loop.invariant in
    (read.0 ++ c.in-Some.field-0-0.now ∷ [], has_read_more c.args.bytes.now c.loop.counter read.0 c.loop.rest.now c.in-Some.field-0-0.now c.in-Some.after.now read.1 c.in-Some.ensures.0 c.in-Some.ensures.1)

pub returns-in_default : goal.returns-in_default
returns-in_default c =
    let read = c.loop.invariant in
    truncated_at c.args.bytes.now c.args.width read.0 c.loop.rest.now read.1.joined read.1.short (omega (arith, read.1.len)) c.in_default.ensures

pub returns : goal.returns
returns c =
    let read = c.loop.invariant in
    let all = all_read c.args.bytes.now c.args.width read.0 c.loop.rest.now (subst (λ n. HasRead c.args.bytes.now n read.0 c.loop.rest.now) (omega arith) read.1) (omega (arith, eqb-true _ _ (sym c.if-not-is_empty.ensures))) in
    (read.0, all.0, all.1)
