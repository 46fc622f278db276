use Rattle.tl_tile.proofs.HonestSource.{honest_source_is_read}
use Rattle.tl_tile.proofs.law.honest_source_law.Goals as goal

pub returns : goal.returns
returns g c = honest_source_is_read (g.S.TileSource.may_answer c.args.source.now) (g.S.TileSource.may_lack c.args.source.now)
