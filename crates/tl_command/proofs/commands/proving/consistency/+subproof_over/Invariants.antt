use Rattle.std.proofs.Common.{length}
use Rattle.tl_command.proofs.commands.proving.consistency.+subproof_over.Given as goal

abbrev pub decreases-subproof_over : goal.decreases-subproof_over
decreases-subproof_over g l = length l.lines.now
