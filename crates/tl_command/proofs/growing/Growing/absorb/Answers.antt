use Rattle.std.proofs.Common.{refl, arith}
use Rattle.std.proofs.lemmas.Grind.{common_steps}
use Rattle.tl_command.proofs.WholeLines.{grown_tiles}
use Rattle.tl_command.proofs.growing.Growing.absorb.Goals as goal

pub returns-clause-grows : goal.returns-clause-grows
returns-clause-grows g c = λ input was more.
    let fills = c.if-not-fills_tiles.ensures refl in
    let next_fills = c.if-not-fills_tiles-2.ensures refl in
    grown_tiles c.args.self.now _ c.args.next.now input c.args.piece.now was more fills next_fills fills.short fills.unbegun c.in_ok-append_edge.ensures.entries

pub returns-then-not-fills_tiles-clause-grows : goal.returns-then-not-fills_tiles-clause-grows
returns-then-not-fills_tiles-clause-grows g c = grind (arith, common_steps)
