use Rattle.std.proofs.Common.{sym, subst}
use Rattle.std.specs.Str.{IsUtf8}
use Rattle.tl_folder.proofs.Marks.{mark_utf8}
use Rattle.tl_folder.proofs.mark.parse_mark.Goals as goal

pub returns-in_default-clause-unmarked : goal.returns-in_default-clause-unmarked
returns-in_default-clause-unmarked c = λ size small e. c.in_default.ensures.cases.0 (subst IsUtf8 (sym e) (mark_utf8 size small))
