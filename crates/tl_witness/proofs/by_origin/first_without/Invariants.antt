use Rattle.std.proofs.Common.{◌≢◌, None, All, map, take}
use Rattle.tl_witness.specs.ByOrigin.{index_of}
use Rattle.tl_witness.proofs.by_origin.first_without.Given as goal

-- the origins so far have places
abbrev pub invariant-loop-i : goal.invariant-loop-i
invariant-loop-i g l = All (λ o. index_of l.places o ≢ None) (map g.N.OfOrigin.origin_of (take l.i l.list))
