use Rattle.tl_tile.proofs.Honest.{folded_hashes_are_one}
use Rattle.tl_tile.proofs.law.folded_hashes_law.Goals as goal

pub returns : goal.returns
returns c = folded_hashes_are_one
