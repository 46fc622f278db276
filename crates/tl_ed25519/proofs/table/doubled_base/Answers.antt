use Rattle.tl_ed25519.proofs.Doublings.{less_row, more_row, z_row, t_row, at_table}
use Rattle.tl_ed25519.proofs.table.doubled_base.Goals as goal

pub from_limbs-requires : goal.from_limbs-requires
from_limbs-requires c = (less_row c.args.i c.requires).0

pub from_limbs-requires-2 : goal.from_limbs-requires-2
from_limbs-requires-2 c = (more_row c.args.i c.requires).0

pub from_limbs-requires-3 : goal.from_limbs-requires-3
from_limbs-requires-3 c = (z_row c.args.i c.requires).0

pub from_limbs-requires-4 : goal.from_limbs-requires-4
from_limbs-requires-4 c = (t_row c.args.i c.requires).0

pub returns : goal.returns
returns c =
    at_table c.args.i c.from_limbs.result c.from_limbs-2.result c.from_limbs-3.result c.from_limbs-4.result c.requires
    c.from_limbs.ensures c.from_limbs-2.ensures c.from_limbs-3.ensures c.from_limbs-4.ensures
