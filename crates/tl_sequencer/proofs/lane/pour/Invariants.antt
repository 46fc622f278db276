use Rattle.std.proofs.Common.{◌≡◌, ◌+◌, ◌≤◌, ◌++◌, vec_len, vec_capacity, length}
use Rattle.std.specs.List.{range_with_len}
use Rattle.rtrb.specs.Ring.{known_items}
use Rattle.tl_sequencer.specs.Rings.{Pours}
use Rattle.tl_sequencer.proofs.lane.pour.Given as goal

abbrev pub invariant-loop : goal.invariant-loop
invariant-loop g l = record {
  poured : Pours l.counter l.lane l.initial.ring l.ring l.initial.entries.items l.entries.items l.initial.who.items l.who.items;
  placed : l.places.items ≡ l.initial.places.items ++ range_with_len (length l.initial.entries.items) l.counter;
  known : l.count ≤ length (known_items l.ring) + l.counter;
  entries : vec_len l.entries + l.count ≤ vec_capacity l.entries + l.counter;
  who : vec_len l.who + l.count ≤ vec_capacity l.who + l.counter;
  places : vec_len l.places + l.count ≤ vec_capacity l.places + l.counter;
}
