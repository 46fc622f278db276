use Rattle.std.proofs.Common.{arith}
use Rattle.std.proofs.lemmas.Grind.{common_steps}
use Rattle.tl_device.proofs.plain.read_plain.Goals as goal

pub returns-clause-failed : goal.returns-clause-failed
returns-clause-failed g c = grind (arith, common_steps)

pub returns-clause-other : goal.returns-clause-other
returns-clause-other g c = grind (arith, common_steps)

pub returns-clause-short : goal.returns-clause-short
returns-clause-short g c = grind (arith, common_steps)

pub returns-in-Err-clause-failed : goal.returns-in-Err-clause-failed
returns-in-Err-clause-failed g c = grind (arith, common_steps)

pub returns-in-Err-clause-other : goal.returns-in-Err-clause-other
returns-in-Err-clause-other g c = grind (arith, common_steps)

pub returns-in-Ok-read_whole-clause-failed : goal.returns-in-Ok-read_whole-clause-failed
returns-in-Ok-read_whole-clause-failed g c = grind (arith, common_steps)

pub returns-in-Ok-read_whole-clause-other : goal.returns-in-Ok-read_whole-clause-other
returns-in-Ok-read_whole-clause-other g c = grind (arith, common_steps)

pub returns-in-Ok-read_whole-clause-short : goal.returns-in-Ok-read_whole-clause-short
returns-in-Ok-read_whole-clause-short g c = grind (arith, common_steps)

pub returns-in_err-file-clause-failed : goal.returns-in_err-file-clause-failed
returns-in_err-file-clause-failed g c = grind (arith, common_steps)

pub returns-in_err-file-clause-other : goal.returns-in_err-file-clause-other
returns-in_err-file-clause-other g c = grind (arith, common_steps)

pub returns-in_err-file-clause-short : goal.returns-in_err-file-clause-short
returns-in_err-file-clause-short g c = grind (arith, common_steps)

pub returns-then-not-is_file-clause-failed : goal.returns-then-not-is_file-clause-failed
returns-then-not-is_file-clause-failed g c = grind (arith, common_steps)

pub returns-then-not-is_file-clause-other : goal.returns-then-not-is_file-clause-other
returns-then-not-is_file-clause-other g c = grind (arith, common_steps)
