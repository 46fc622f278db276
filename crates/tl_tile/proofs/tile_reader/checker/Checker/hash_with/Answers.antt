use Rattle.tl_tile.specs.Fetched.{tiles_of}
use Rattle.tl_tile.proofs.Reading.{place_within}
use Rattle.tl_tile.proofs.tile_reader.checker.Checker.hash_with.Goals as goal

pub hash_in-requires : goal.hash_in-requires
hash_in-requires g c =
    place_within (tiles_of c.args.fetched.now) c.args.self.now.size c.args.level c.args.place c.in-Some.text.now c.requires.verified.long c.requires.place c.in-Some.ensures
