use Rattle.tl_witness.specs.ByOrigin.{index_of}
use Rattle.tl_witness.proofs.ByOriginLaws.{HasIndexed}
use Rattle.tl_witness.proofs.by_origin.places_in.Given as goal

-- the origins so far have their places, and each stands there once
abbrev pub invariant-loop-i : goal.invariant-loop-i
invariant-loop-i g l = HasIndexed (index_of l.places) g.N.OfOrigin.origin_of l.list l.i
