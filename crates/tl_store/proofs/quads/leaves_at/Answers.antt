use Rattle.tl_store.proofs.quads.leaves_at.Goals as goal

pub returns-clause-a : goal.returns-clause-a
returns-clause-a g c = (c.index-a-place.result, c.index-a-place.is, rw c.deref.ensures.value at c.digest_four.ensures.a)

pub returns-clause-b : goal.returns-clause-b
returns-clause-b g c = (c.index-b-place.result, c.index-b-place.is, rw c.deref-2.ensures.value at c.digest_four.ensures.b)

pub returns-clause-c : goal.returns-clause-c
returns-clause-c g c = (c.index-c-place.result, c.index-c-place.is, rw c.deref-3.ensures.value at c.digest_four.ensures.c)

pub returns-clause-d : goal.returns-clause-d
returns-clause-d g c = (c.index-d-place.result, c.index-d-place.is, rw c.deref-4.ensures.value at c.digest_four.ensures.d)
