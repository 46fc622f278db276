use Rattle.std.proofs.Common.{◌≡◌, ◌++◌, length, map, vec_items}
use Rattle.tl_lines.specs.Dealt.{Deals}
use Rattle.tl_serve.proofs.opening.lanes_of.Given as goal

-- the submitters that have their entries, and those that are left, are all; and so are the lists
abbrev pub invariant-loop-submitter : goal.invariant-loop-submitter
invariant-loop-submitter l = record {
  submitters : map (λ k. k.submitter) l.lanes.items ++ l.submitter-iterator.rest.items ≡ l.fn.submitters.items;
  entries : Deals (length l.fn.submitters.items) l.fn.entries.items (map (λ k. vec_items k.entries) l.lanes.items ++ map vec_items l.lists.rest.items);
  left : length l.lists.rest.items ≡ length l.submitter-iterator.rest.items;
  len : l.submitter-iterator.rest.len ≡ length l.submitter-iterator.rest.items;
  lists_len : l.lists.rest.len ≡ length l.lists.rest.items;
}
