use Rattle.std.proofs.Common.{◌≡◌, ◌++◌, All, map, length, string_bytes}
use Rattle.tl_proof.specs.Acceptance.{step_of}
use Rattle.tl_witness.specs.Chain.{IsChain}
use Rattle.tl_witness.specs.Open.{saved_chain}
use Rattle.tl_witness.proofs.opening.check_chains.Given as goal

-- what was checked and what is left are all
abbrev pub invariant-loop-origin : goal.invariant-loop-origin
invariant-loop-origin g l =
    (goal.iterator-loop-origin g).can_next l.origin-iterator
    × (goal.iterator-loop-origin g).is_finite l.origin-iterator
    × (map (λ c. saved_chain (string_bytes c.origin) c.chain) l.checked.items ++ map (λ c. saved_chain (string_bytes c.0) (map step_of c.1.items)) l.origin-iterator.rest.items
    ≡ map (λ c. saved_chain (string_bytes c.0) (map step_of c.1.items)) l.fn.chains.items)
    × All (λ c. IsChain g.T.TreeHash.digest_of c.steps) (map (λ c. saved_chain (string_bytes c.origin) c.chain) l.checked.items)
    × (l.origin-iterator.rest.len ≡ length l.origin-iterator.rest.items)
