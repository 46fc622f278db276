use Rattle.std.proofs.Common.{sym, subst}
use Rattle.std.specs.Prelude.{IsUtf8}
use Rattle.tl_bucket.proofs.CommitTexts.{number_utf8}
use Rattle.tl_bucket.proofs.commit.read_size.Goals as goal

pub returns-in-Err : goal.returns-in-Err
returns-in-Err c = λ n small e. c.in-Err.ensures.cases.0 (subst IsUtf8 (sym e) (number_utf8 n small))
