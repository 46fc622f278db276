use Rattle.tl_tile.proofs.Honest.{honest_tiles_fold_to_root, honest_tiles_fold_to_above}
use Rattle.tl_tile.proofs.HonestHashes.{honest_tiles_have_stored_hashes}
use Rattle.tl_tile.proofs.law.honest_tiles_law.Goals as goal

pub returns-clause-root : goal.returns-clause-root
returns-clause-root c = honest_tiles_fold_to_root

pub returns-clause-above : goal.returns-clause-above
returns-clause-above c = honest_tiles_fold_to_above

pub returns-clause-stored : goal.returns-clause-stored
returns-clause-stored c = honest_tiles_have_stored_hashes
