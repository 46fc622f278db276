use Rattle.std.proofs.Common.{refl}
use Rattle.tl_tile.specs.Fetched.{tiles_of}
use Rattle.tl_tile.proofs.Reading.{part_inside}
use Rattle.tl_tile.proofs.tile_reader.checker.Checker.subtree_hash.Goals as goal

pub fold_part-requires-clause-inside : goal.fold_part-requires-clause-inside
fold_part-requires-clause-inside g c =
    part_inside (tiles_of c.args.fetched.now) c.args.self.now.size c.args.subtree c.args.first c.args.count _ c.in-Some-text_with.text.now
    c.requires.first c.requires.count c.requires.within c.requires.verified.long refl c.in-Some-text_with.ensures
