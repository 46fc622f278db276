use Rattle.std.proofs.Common.{◌∙◌}
use Rattle.tl_tile.proofs.TileTexts.{tile_text-stored, has_tile, tile_fault}
use Rattle.tl_tile.proofs.tile.tile_bytes.Goals as goal

pub returns-clause-in_range : goal.returns-clause-in_range
returns-clause-in_range g c =
    has_tile c.args.tile _ _ c.requires.lawful.wide (c.deref.ensures.value ∙ c.in_ok-numbers.ensures.numbers) c.in-Ok.ensures.in_range

pub returns-clause-text : goal.returns-clause-text
returns-clause-text g c = λ H entries stands.
    let numbers = c.deref.ensures.value ∙ c.in_ok-numbers.ensures.numbers in
    tile_text-stored H c.args.tile _ entries _ _ _
    (has_tile c.args.tile _ _ c.requires.lawful.wide numbers c.in-Ok.ensures.in_range)
    (g.met.R.HashReader.stands_size c.args.reader.now H entries stands).0
    numbers
    (c.deref-2.ensures.value ∙ c.in-Ok.ensures.hashes H entries stands)
    c.in_ok-bytes.ensures

pub returns-in-Err-clause-faults : goal.returns-in-Err-clause-faults
returns-in-Err-clause-faults g c =
    tile_fault c.args.tile _ (g.R.HashReader.may_fail c.args.reader.now) _ _ c.requires.lawful.wide (c.deref.ensures.value ∙ c.in_ok-numbers.ensures.numbers) c.in-Err.ensures.faults
