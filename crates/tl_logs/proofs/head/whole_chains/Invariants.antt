use Rattle.std.proofs.Common.{◌≡◌, ◌++◌, length, map}
use Rattle.tl_witness.specs.ReadChain.{chains_shown}
use Rattle.tl_logs.specs.State.{in_one_step}
use Rattle.tl_logs.specs.ReadState.{head_shown}
use Rattle.tl_logs.proofs.head.whole_chains.Given as goal

-- the chains so far, and those of the heads that are left, are all
abbrev pub invariant-loop-head : goal.invariant-loop-head
invariant-loop-head g l =
    (goal.iterator-loop-head g).can_next l.head-iterator
    × (goal.iterator-loop-head g).is_finite l.head-iterator
    × (chains_shown l.chains.items ++ map (λ o. in_one_step (head_shown o)) l.head-iterator.rest.items
    ≡ map (λ o. in_one_step (head_shown o)) l.fn.heads.items)
    × (l.head-iterator.rest.len ≡ length l.head-iterator.rest.items)
