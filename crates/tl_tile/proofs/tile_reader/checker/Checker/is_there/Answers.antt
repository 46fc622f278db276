use Rattle.tl_tile.specs.Fetched.{tiles_of}
use Rattle.tl_tile.proofs.Push.{full_when_missing}
use Rattle.tl_tile.proofs.tile_reader.checker.Checker.is_there.Goals as goal

pub returns-in-None : goal.returns-in-None
returns-in-None g c =
    full_when_missing (tiles_of c.args.fetched.now) c.args.self.now.size c.args.level c.args.place c.requires.verified.edge c.requires.size c.requires.level c.requires.place c.in-None.ensures
