use Rattle.std.proofs.Common.{inl, inr}
use Rattle.tl_fetch.proofs.opening.trusted_two.Goals as goal

pub returns-in-Err-clause-refused : goal.returns-in-Err-clause-refused
returns-in-Err-clause-refused g c = inl c.in-Err.ensures.refused

pub returns-in-Err-trusted_now-clause-refused : goal.returns-in-Err-trusted_now-clause-refused
returns-in-Err-trusted_now-clause-refused g c = inr c.in-Err-trusted_now.ensures.refused
