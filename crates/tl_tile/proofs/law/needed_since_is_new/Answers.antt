use Rattle.tl_tile.proofs.NeededSince.{since_is_new}
use Rattle.tl_tile.proofs.law.needed_since_is_new.Goals as goal

pub returns : goal.returns
returns c = since_is_new
