use Rattle.std.proofs.Common.{◌+◌, [], ◌∷◌, ◌++◌, length, sym, arith}
use Rattle.std.proofs.lemmas.Grind.{common_steps}
use Rattle.std.specs.Prelude.{◌≢◌}
use Rattle.std.proofs.lemmas.Bool.{eqb-false, eqb-true}
use Rattle.tl_tile.proofs.BundleLemmas.{has_read_none, has_read_more, all_read}
use Rattle.tl_bucket.proofs.CommitEntries.{no_entries}
use Rattle.tl_bucket.proofs.commit.are_entries.Goals as goal

pub loop-rest-init : goal.loop-rest-init
loop-rest-init c = (0, [], has_read_none c.args.bytes.now)

pub loop-rest-preserved : goal.loop-rest-preserved
loop-rest-preserved c =
    let so_far = c.loop-rest.invariant in
    (so_far.0 + 1, so_far.1 ++ c.in-Some.field-0-0.now ∷ [], has_read_more c.args.bytes.now so_far.0 so_far.1 c.loop-rest.rest.now c.in-Some.field-0-0.now c.in-Some.after.now so_far.2 c.in-Some.ensures.0 c.in-Some.ensures.1)

pub returns-in_default : goal.returns-in_default
returns-in_default c = λ all short spelled.
    let so_far = c.loop-rest.invariant in
    let some : length c.loop-rest.rest.now ≢ 0 = eqb-false (length c.loop-rest.rest.now) 0 (sym c.loop-rest-test.ensures) in
    no_entries so_far.0 c.args.bytes.now c.loop-rest.rest.now so_far.1 all so_far.2 (omega (arith, some)) c.in_default.ensures short spelled

pub returns : goal.returns
returns c =
    let so_far = c.loop-rest.invariant in
    let all = all_read c.args.bytes.now so_far.0 so_far.1 c.loop-rest.rest.now so_far.2 (eqb-true (length c.loop-rest.rest.now) 0 (sym c.loop-rest-test.ensures)) in
    (so_far.1, all.0.short, all.1)

pub loop-rest-smaller : goal.loop-rest-smaller
loop-rest-smaller c = grind (arith, common_steps)
