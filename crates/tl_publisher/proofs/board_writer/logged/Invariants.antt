use Rattle.std.proofs.Common.{◌≡◌, drop}
use Rattle.tl_publisher.proofs.board_writer.logged.Given as goal

abbrev pub invariant-loop : goal.invariant-loop
invariant-loop g l =
    (l.step ≡ l.initial.step) × (l.writer.desk ≡ l.initial.writer.desk) × (drop l.writer.behind l.writer.log.items ≡ drop l.initial.writer.behind l.initial.writer.log.items)
