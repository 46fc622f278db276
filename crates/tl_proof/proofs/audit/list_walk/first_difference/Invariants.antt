use Rattle.std.proofs.Common.{◌≡◌, map, take, vec_items}
use Rattle.tl_proof.proofs.audit.list_walk.first_difference.Given as goal

abbrev pub invariant-loop-i : goal.invariant-loop-i
invariant-loop-i g l = map vec_items (take l.i l.old) ≡ map vec_items (take l.i l.new)
