use Rattle.tl_witness.proofs.lock.Lock.put_back.Given as goal

-- whatever is to be put back fits the tag
abbrev pub invariant-loop : goal.invariant-loop
invariant-loop g l = (goal.iterator-loop g).can_next l.iterator' × (goal.iterator-loop g).is_finite l.iterator' × g.X.Fits.fits l.self.slot l.value
