use Rattle.tl_bucket.proofs.CommitEntries.{one_rest}
use Rattle.tl_bucket.proofs.CommitLaws.{one_commit}
use Rattle.tl_bucket.proofs.law.commits_have_one_reading.Goals as goal

pub returns : goal.returns
returns c = record { commit = one_commit; rest = one_rest }
