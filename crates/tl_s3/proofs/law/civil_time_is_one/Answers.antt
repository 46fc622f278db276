use Rattle.tl_s3.proofs.Times.{one_at}
use Rattle.tl_s3.proofs.law.civil_time_is_one.Goals as goal

pub returns : goal.returns
returns c = record { one = one_at }
