use Rattle.std.proofs.Common.{map, arith}
use Rattle.std.proofs.lemmas.Grind.{common_steps}
use Rattle.std.proofs.lemmas.List.{length-map}
use Rattle.tl_command.proofs.WholeLines.{grown_lines, lines_within}
use Rattle.tl_command.proofs.growing.Growing.take_tile.Goals as goal

pub push_tile-requires-clause-small : goal.push_tile-requires-clause-small
push_tile-requires-clause-small g c =
    let tile = c.in-Some.tile in
    let within = lines_within c.args.piece.now (map (λ line. line.now) tile.lines) tile.rest.now c.in-Some.ensures.begins in
    omega (arith, within, length-map tile.lines (λ line. line.now), c.in-Some.ensures.count, c.requires)

pub returns-clause-size : goal.returns-clause-size
returns-clause-size g c =
    let tile = c.in-Some.tile in
    let within = lines_within c.args.piece.now (map (λ line. line.now) tile.lines) tile.rest.now c.in-Some.ensures.begins in
    omega (arith, within, length-map tile.lines (λ line. line.now), c.in-Some.ensures.count, c.in_ok-push_tile.ensures.size)

pub returns-clause-grows : goal.returns-clause-grows
returns-clause-grows g c = λ input was.
    let tile = c.in-Some.tile in
    let fills = c.fills_tiles.ensures c.if-not-fills_tiles.false in
    grown_lines c.args.self.now _ input c.args.piece.now (map (λ line. line.now) tile.lines) tile.rest.now
    was c.in-Some.ensures.begins fills.short fills.unbegun fills.short fills.unbegun c.in_ok-push_tile.ensures.entries

pub overflow_sub-result : goal.overflow_sub-result
overflow_sub-result g c = grind (arith, common_steps)

pub returns-in_default-clause-grows : goal.returns-in_default-clause-grows
returns-in_default-clause-grows g c = grind (arith, common_steps)

pub returns-then-not-fills_tiles-clause-grows : goal.returns-then-not-fills_tiles-clause-grows
returns-then-not-fills_tiles-clause-grows g c = grind (arith, common_steps)
