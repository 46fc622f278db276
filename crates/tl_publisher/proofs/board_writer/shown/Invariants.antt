use Rattle.std.proofs.Common.{◌≡◌, drop}
use Rattle.left_right.specs.Sides.{view}
use Rattle.tl_publisher.proofs.board_writer.shown.Given as goal

abbrev pub invariant-loop : goal.invariant-loop
invariant-loop g l =
    (view l.writer.desk.place ≡ view l.initial.writer.desk.place) × (l.writer.desk.shown.value ≡ l.initial.writer.desk.shown.value) × (drop l.writer.behind l.writer.log.items ≡ drop l.initial.writer.behind l.initial.writer.log.items)
