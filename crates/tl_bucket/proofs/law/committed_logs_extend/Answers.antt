use Rattle.tl_bucket.proofs.Commits.{consistent, log_extends}
use Rattle.tl_bucket.proofs.Grown.{commits_led, committed_stays, is_committed_stays}
use Rattle.tl_bucket.proofs.law.committed_logs_extend.Goals as goal

pub returns-clause-front : goal.returns-clause-front
returns-clause-front c = λ setting w later leads m n a b le is was.
    log_extends later.store m n a b le (committed_stays w.store later.store (commits_led setting leads.0 w later leads.1) m a is) was

pub returns-clause-either : goal.returns-clause-either
returns-clause-either c = λ setting w later leads a b is was.
    consistent later.store a b (is_committed_stays w.store later.store (commits_led setting leads.0 w later leads.1) a is) was
