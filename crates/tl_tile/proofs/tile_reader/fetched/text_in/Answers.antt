use Rattle.std.proofs.Common.{sym, ◌∙◌, arith}
use Rattle.std.proofs.lemmas.Grind.{common_steps}
use Rattle.tl_tile.proofs.Paths.{text-later, text-here}
use Rattle.tl_tile.proofs.tile_reader.fetched.text_in.Goals as goal

pub returns-then-is_same : goal.returns-then-is_same
returns-then-is_same g c =
    text-here c.args.tiles.now c.loop-fetched.fetched-index c.fetched-item.result c.args.tile c.as_slice.result.now c.loop-fetched-test.true c.fetched-item.is
    (sym c.is_same.ensures ∙ c.if-is_same.true) c.as_slice.ensures.value c.loop-fetched.invariant

pub loop-fetched-preserved : goal.loop-fetched-preserved
loop-fetched-preserved g c =
    text-later c.args.tiles.now c.loop-fetched.fetched-index c.fetched-item.result c.args.tile c.loop-fetched-test.true c.fetched-item.is
    (sym c.is_same.ensures ∙ c.if-is_same.false) c.loop-fetched.invariant

pub returns : goal.returns
returns g c = grind (arith, common_steps)
