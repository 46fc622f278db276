use Rattle.std.proofs.Common.{◌+◌, ◌*◌}
use Rattle.tl_command.proofs.growing.shares.+fn-grow-join+arg3+grow.Given as goal

abbrev pub decreases-join+arg3 : goal.decreases-join+arg3
decreases-join+arg3 g l = 2 * l.others + 1

abbrev pub decreases-grow : goal.decreases-grow
decreases-grow g l = 2 * l.threads
