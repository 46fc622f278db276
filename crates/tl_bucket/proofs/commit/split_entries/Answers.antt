use Rattle.std.proofs.Common.{◌+◌, length, map, vec_items, sym, arith}
use Rattle.std.proofs.lemmas.Grind.{common_steps}
use Rattle.std.specs.Prelude.{◌≢◌}
use Rattle.std.proofs.lemmas.Bool.{eqb-false}
use Rattle.tl_tile.proofs.BundleLemmas.{has_read_one}
use Rattle.tl_bucket.proofs.CommitEntries.{no_entries}
use Rattle.tl_bucket.proofs.commit.split_entries.Goals as goal

pub unreachable-requires : goal.unreachable-requires
unreachable-requires g c =
    let so_far = c.loop-rest.invariant in
    let some : length c.loop-rest.rest.now ≢ 0 = eqb-false (length c.loop-rest.rest.now) 0 (sym c.loop-rest-test.ensures) in
    no_entries so_far.0 c.args.bytes.now c.loop-rest.rest.now (map vec_items c.loop-rest.entries.items) c.requires.0 so_far.1 (omega (arith, some)) c.in_default.ensures c.requires.1 c.requires.2

pub loop-rest-preserved : goal.loop-rest-preserved
loop-rest-preserved g c =
    let so_far = c.loop-rest.invariant in (
      so_far.0 + 1,
      has_read_one c.args.bytes.now so_far.0 c.loop-rest.entries.items c.push.new.self.items c.in_ok-entry.entry c.loop-rest.rest.now c.in-Some.entry.now c.in-Some.after.now
          so_far.1 c.in-Some.ensures.0 c.in-Some.ensures.1 c.in_ok-entry.ensures.items c.in_ok-push.ensures.items,
    )

pub loop-rest-smaller : goal.loop-rest-smaller
loop-rest-smaller g c = grind (arith, common_steps)

pub returns : goal.returns
returns g c = grind (arith, common_steps)
