use Rattle.std.proofs.Common.{arith}
use Rattle.tl_tile.proofs.PathLemmas.{no_place_past, no_place_at, no_place_width}
use Rattle.tl_tile.proofs.path.piece_of.Goals as goal

pub returns-then-index : goal.returns-then-index
returns-then-index c = no_place_past c.args.bytes.now c.number_before_dot-index.result c.number_before_dot-index.ensures (omega arith)

pub returns-in_default : goal.returns-in_default
returns-in_default c = no_place_at c.args.bytes.now c.number_before_dot-index.result c.number_before_dot-index.ensures c.in_default.ensures

pub returns-in_default-width_of : goal.returns-in_default-width_of
returns-in_default-width_of c = no_place_width c.args.bytes.now c.in-Some.rest.now c.number_before_dot-index.result c.number_before_dot-index.ensures c.in-Some.ensures c.in_default-width_of.ensures
