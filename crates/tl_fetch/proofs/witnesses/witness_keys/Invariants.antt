use Rattle.tl_fetch.proofs.KeyLemmas.{HaveOwnSoFar}
use Rattle.tl_fetch.proofs.witnesses.witness_keys.Given as goal

abbrev pub invariant-loop-place : goal.invariant-loop-place
invariant-loop-place l = HaveOwnSoFar l.options l.log l.known.items l.keys.items l.place
