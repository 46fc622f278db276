use Rattle.std.proofs.Common.{◌≤◌, ◌+◌, vec_len, vec_capacity, length}
use Rattle.rtrb.specs.Ring.{known_items}
use Rattle.tl_sequencer.specs.Rings.{Pours}
use Rattle.tl_sequencer.specs.Inner.Held.{taken_of, who_of, SameDrained}
use Rattle.tl_sequencer.proofs.lane.pour_noted.Given as goal

abbrev pub invariant-loop : goal.invariant-loop
invariant-loop g l = record {
  poured : Pours l.counter l.lane l.initial.ring l.ring (taken_of l.initial.history.items) (taken_of l.history.items) (who_of l.initial.history.items) (who_of l.history.items);
  drained : SameDrained (taken_of l.initial.history.items) (taken_of l.history.items) l.initial.waiting.items l.waiting.items;
  known : l.count ≤ length (known_items l.ring) + l.counter;
  room : vec_len l.waiting + l.count ≤ vec_capacity l.waiting + l.counter;
}
