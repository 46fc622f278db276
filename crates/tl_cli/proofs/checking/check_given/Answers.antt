use Rattle.std.proofs.Common.{Some, ap, refl}
use Rattle.tl_cli.proofs.FileRuns.{checks_file}
use Rattle.tl_cli.proofs.checking.check_given.Goals as goal

pub returns-in-Text : goal.returns-in-Text
returns-in-Text g c = rw c.in-Text.is (checks_file _ _ _ _ _ _ _ c.check_in_file.ensures refl (ap Some c.as_bytes.ensures.value))
