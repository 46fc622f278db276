use Rattle.tl_offline.proofs.Listed.{accepted_is_listed}
use Rattle.tl_offline.proofs.law.accepted_entries_are_listed.Goals as goal

pub returns : goal.returns
returns c = accepted_is_listed
