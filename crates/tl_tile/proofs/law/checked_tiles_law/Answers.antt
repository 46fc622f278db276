use Rattle.tl_tile.proofs.Checked.{checked_tiles_have_stored_hashes}
use Rattle.tl_tile.proofs.law.checked_tiles_law.Goals as goal

pub returns : goal.returns
returns c = checked_tiles_have_stored_hashes
