use Rattle.std.proofs.Common.{inl}
use Rattle.tl_fetch.proofs.Passages.{still}
use Rattle.tl_fetch.proofs.run.keep_and_print.Goals as goal

pub returns-in-Err-clause-refused : goal.returns-in-Err-clause-refused
returns-in-Err-clause-refused g c = record { why = inl (c.in-Err.ensures.refused, still _ _); fair = c.in-Err.ensures.fair }
