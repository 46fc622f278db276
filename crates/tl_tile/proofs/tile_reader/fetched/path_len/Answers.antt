use Rattle.std.proofs.Common.{sym, ◌∙◌, arith}
use Rattle.std.proofs.lemmas.Grind.{common_steps}
use Rattle.tl_tile.proofs.Paths.{path-later, path-end}
use Rattle.tl_tile.proofs.tile_reader.fetched.path_len.Goals as goal

pub returns-then-not-is_on_path : goal.returns-then-not-is_on_path
returns-then-not-is_on_path g c =
    path-end c.args.index c.loop-fetched.count c.args.tiles.now c.loop-fetched.fetched-index c.fetched-item.result c.loop-fetched-test.true c.fetched-item.is
    (sym c.is_on_path.ensures ∙ c.if-not-is_on_path.true) c.loop-fetched.invariant.rest

pub loop-fetched-preserved : goal.loop-fetched-preserved
loop-fetched-preserved g c = record {
  count = omega (arith, c.loop-fetched.invariant.count);
  rest = path-later c.args.index c.loop-fetched.count c.args.tiles.now c.loop-fetched.fetched-index c.fetched-item.result c.loop-fetched-test.true c.fetched-item.is
      (sym c.is_on_path.ensures ∙ c.if-not-is_on_path.false) c.loop-fetched.invariant.rest;
}

pub returns : goal.returns
returns g c = grind (arith, common_steps)
