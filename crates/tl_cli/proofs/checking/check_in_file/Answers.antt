use Rattle.std.proofs.Common.{inl, inr, rules}
use Rattle.tl_cli.proofs.FileRuns.{checks_file}
use Rattle.tl_cli.proofs.checking.check_in_file.Goals as goal

pub returns-in-Err : goal.returns-in-Err
returns-in-Err g c = inr (c.in-Err.ensures, search rules)

pub returns : goal.returns
returns g c =
    checks_file _ _ _ _ _ _ c.run_check_opened.result (inl (c.as_slice.result.now, c.run_check_opened.ensures))
    c.as_str-2.ensures.value (search rules)
