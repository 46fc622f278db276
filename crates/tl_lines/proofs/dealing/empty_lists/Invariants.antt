use Rattle.std.proofs.Common.{◌≡◌, [], map, replicate, vec_items}
use Rattle.tl_lines.proofs.dealing.empty_lists.Given as goal

-- this many lists so far, each empty
abbrev pub invariant-loop-lane : goal.invariant-loop-lane
invariant-loop-lane g l = map vec_items l.lists.items ≡ replicate l._lane []
