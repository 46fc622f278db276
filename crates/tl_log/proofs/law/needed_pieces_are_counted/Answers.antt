use Rattle.tl_log.proofs.Needs.{needs_tile, tile_needs, needs_bundle, bundle_needs}
use Rattle.tl_log.proofs.law.needed_pieces_are_counted.Goals as goal

pub returns-clause-tiles : goal.returns-clause-tiles
returns-clause-tiles c = λ t size. (needs_tile t size, λ has. tile_needs t size has.0 has.1)

pub returns-clause-bundles : goal.returns-clause-bundles
returns-clause-bundles c = λ index width size. (needs_bundle index width size, bundle_needs index width size)
