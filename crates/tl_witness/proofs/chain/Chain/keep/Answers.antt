use Rattle.std.proofs.Common.{map, refl, arith, rules}
use Rattle.std.proofs.lemmas.Grind.{common_steps}
use Rattle.std.proofs.lemmas.List.{map-append}
use Rattle.tl_proof.specs.Acceptance.{step_of}
use Rattle.tl_witness.specs.Chain.{Follows, first_head, last_head}
use Rattle.tl_witness.proofs.ChainLaws.{chain-snoc, line_made, unless_err}
use Rattle.tl_witness.proofs.chain.Chain.keep.Goals as goal

-- the link follows the chain as it is at the push, which the reserve left as it was
pub invariant_of-self-2 : goal.invariant_of-self-2
invariant_of-self-2 g c =
    let follows : Follows g.T.TreeHash.digest_of (last_head (first_head g.T.TreeHash.digest_of) (map step_of c.self.inside.links.items)) (step_of c.args.link) = rw c.self.view_is c.requires.follows in
    rw (c.push_reserved.ensures.items, c.reserve.ensures.items, map-append)
    (chain-snoc g.T.TreeHash.digest_of (map step_of c.self.inside.links.items) (step_of c.args.link) c.self.invariant follows (line_made _ c.requires.line))

pub invariant_of-self : goal.invariant_of-self
invariant_of-self g c = rw c.reserve.ensures.items c.self.invariant

pub push_reserved-requires : goal.push_reserved-requires
push_reserved-requires g c =
    let room = unless_err c.reserve.result _ c.if-is_err.ensures.value c.reserve.ensures.ok in
    omega (arith, room)

pub returns-clause-kept : goal.returns-clause-kept
returns-clause-kept g c =
    (search rules, rw (c.push_reserved.ensures.items, c.reserve.ensures.items, map-append, c.self.view_is) refl)

pub invariant_of-self-then-is_err-2 : goal.invariant_of-self-then-is_err-2
invariant_of-self-then-is_err-2 g c = grind (arith, common_steps)

pub returns-clause-err : goal.returns-clause-err
returns-clause-err g c = grind (arith, common_steps)

pub returns-clause-failed : goal.returns-clause-failed
returns-clause-failed g c = grind (arith, common_steps)

pub returns-clause-no_memory : goal.returns-clause-no_memory
returns-clause-no_memory g c = grind (arith, common_steps)

pub returns-then-is_err-2-clause-err : goal.returns-then-is_err-2-clause-err
returns-then-is_err-2-clause-err g c = grind (arith, common_steps)

pub returns-then-is_err-2-clause-failed : goal.returns-then-is_err-2-clause-failed
returns-then-is_err-2-clause-failed g c = grind (arith, common_steps)

pub returns-then-is_err-2-clause-kept : goal.returns-then-is_err-2-clause-kept
returns-then-is_err-2-clause-kept g c = grind (arith, common_steps)

pub returns-then-is_err-clause-err : goal.returns-then-is_err-clause-err
returns-then-is_err-clause-err g c = grind (arith, common_steps)

pub returns-then-is_err-clause-failed : goal.returns-then-is_err-clause-failed
returns-then-is_err-clause-failed g c = grind (arith, common_steps)

pub returns-then-is_err-clause-no_memory : goal.returns-then-is_err-clause-no_memory
returns-then-is_err-clause-no_memory g c = grind (arith, common_steps)
