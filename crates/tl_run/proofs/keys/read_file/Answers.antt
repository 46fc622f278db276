use Rattle.std.proofs.Common.{subst, sym}
use Rattle.tl_run.specs.Keys.{IsFileFault}
use Rattle.tl_run.proofs.Files.{file_fails}
use Rattle.tl_run.proofs.keys.read_file.Goals as goal

pub returns-in-Err : goal.returns-in-Err
returns-in-Err g c = subst IsFileFault (sym c.of_device.ensures) (file_fails c.in-Err.fault)
