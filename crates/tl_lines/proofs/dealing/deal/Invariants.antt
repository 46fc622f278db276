use Rattle.std.proofs.Common.{◌≡◌, ℕ, ◌+◌, ◌*◌, ◌<◌, ◌++◌, map, length, vec_items}
use Rattle.tl_lines.specs.Dealt.{Deals}
use Rattle.tl_lines.proofs.dealing.deal.Given as goal

-- the entries so far are dealt, and it is this lane's turn
abbrev pub invariant-loop-entry : goal.invariant-loop-entry
invariant-loop-entry g l = record {
  dealt : Deals l.lanes l.yielded (map vec_items l.lists.items);
  turn : (turn : ℕ) × (length l.yielded ≡ turn * l.lanes + l.lane) × (l.lane < l.lanes);
  all : l.yielded ++ l.entry-iterator.rest.items ≡ l.fn.entries.items;
  len : l.entry-iterator.rest.len ≡ length l.entry-iterator.rest.items;
}
