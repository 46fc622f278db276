use Rattle.std.proofs.Common.{inl, inr, rules}
use Rattle.tl_cli.proofs.checking.check_file_entry.Goals as goal

pub returns-in-Err : goal.returns-in-Err
returns-in-Err g c = inr (c.in-Err.ensures, search rules)

pub returns-in-Ok : goal.returns-in-Ok
returns-in-Ok g c = inl (c.as_slice.result.now, c.check_in_file.ensures)
