use Rattle.std.proofs.Common.{length}
use Rattle.tl_command.proofs.commands.cosigned.+find.Given as goal

abbrev pub decreases-find : goal.decreases-find
decreases-find g l = length l.lines.now
