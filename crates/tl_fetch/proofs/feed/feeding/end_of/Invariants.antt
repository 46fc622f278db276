use Rattle.tl_fetch.specs.Inner.Witnesses.{AreOfOne}
use Rattle.tl_fetch.proofs.feed.feeding.end_of.Given as goal

-- the keys so far have the first one's name
abbrev pub invariant-loop-end : goal.invariant-loop-end
invariant-loop-end l = AreOfOne l.witnesses l.start l.end
