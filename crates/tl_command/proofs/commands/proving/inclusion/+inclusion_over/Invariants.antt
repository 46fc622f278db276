use Rattle.std.proofs.Common.{length}
use Rattle.tl_command.proofs.commands.proving.inclusion.+inclusion_over.Given as goal

abbrev pub decreases-inclusion_over : goal.decreases-inclusion_over
decreases-inclusion_over g l = length l.lines.now
