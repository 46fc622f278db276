use Rattle.std.proofs.Common.{arith}
use Rattle.std.proofs.lemmas.Grind.{common_steps}
use Rattle.tl_tile.proofs.tile_reader.fetched.FetchedTiles.last_text.Goals as goal

pub returns-in-empty : goal.returns-in-empty
returns-in-empty g c = grind (arith, common_steps)
