use Rattle.tl_archive.proofs.Stays.{needed_bytes_stay}
use Rattle.tl_archive.proofs.law.archived_bytes_stay.Goals as goal

pub returns : goal.returns
returns c = needed_bytes_stay
