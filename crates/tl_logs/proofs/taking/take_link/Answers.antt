use Rattle.std.proofs.Common.{arith, inl}
use Rattle.std.proofs.lemmas.Grind.{common_steps}
use Rattle.tl_proof.specs.Acceptance.{step_of}
use Rattle.tl_logs.specs.Inner.ByOrigin.{index_of}
use Rattle.tl_logs.specs.ReadState.{head_shown}
use Rattle.tl_logs.proofs.HeadIndex.{breaks_there, head_within, index_grows, index_stays, moves_there, same_origin}
use Rattle.tl_logs.proofs.taking.take_link.Goals as goal

pub index_mut-requires : goal.index_mut-requires
index_mut-requires g c =
    let room = head_within (λ o. head_shown o) c.args.heads.now.items (index_of c.args.index.now) c.args.origin.now c.requires c.in-Some.place c.in-Some.ensures in
    omega (arith, room, c.args.heads.now.ok.0)

pub returns-then-not-move_head-clause-taken : goal.returns-then-not-move_head-clause-taken
returns-then-not-move_head-clause-taken g c =
    breaks_there (λ o. head_shown o) c.args.heads.now.items (index_of c.args.index.now) c.args.origin.now c.requires g.T.TreeHash.digest_of (step_of c.args.link.now) c.in-Some.place
    c.index_mut.result.now c.move_head.new.head c.in-Some.ensures c.index_mut.ensures.value c.if-not-move_head.ensures

pub returns-then-not-move_head-clause-indexed : goal.returns-then-not-move_head-clause-indexed
returns-then-not-move_head-clause-indexed g c =
    index_stays (λ o. head_shown o) c.args.heads.now.items (index_of c.args.index.now) c.args.origin.now c.requires c.in-Some.place
    c.index_mut.result.now c.move_head.new.head c.in-Some.ensures c.index_mut.ensures.value
    (same_origin g.T.TreeHash.digest_of (step_of c.args.link.now) (head_shown c.index_mut.result.now) (head_shown c.move_head.new.head) c.move_head.result c.move_head.ensures)

pub returns-else-not-move_head-clause-taken : goal.returns-else-not-move_head-clause-taken
returns-else-not-move_head-clause-taken g c =
    inl (moves_there (λ o. head_shown o) c.args.heads.now.items (index_of c.args.index.now) c.args.origin.now c.requires g.T.TreeHash.digest_of (step_of c.args.link.now) c.in-Some.place
    c.index_mut.result.now c.move_head.new.head c.in-Some.ensures c.index_mut.ensures.value c.if-not-move_head.ensures)

pub returns-else-not-move_head-clause-indexed : goal.returns-else-not-move_head-clause-indexed
returns-else-not-move_head-clause-indexed g c =
    index_stays (λ o. head_shown o) c.args.heads.now.items (index_of c.args.index.now) c.args.origin.now c.requires c.in-Some.place
    c.index_mut.result.now c.move_head.new.head c.in-Some.ensures c.index_mut.ensures.value
    (same_origin g.T.TreeHash.digest_of (step_of c.args.link.now) (head_shown c.index_mut.result.now) (head_shown c.move_head.new.head) c.move_head.result c.move_head.ensures)

pub returns-in_ok-add-in-None-clause-indexed : goal.returns-in_ok-add-in-None-clause-indexed
returns-in_ok-add-in-None-clause-indexed g c =
    rw (c.push_reserved.ensures.items, c.in_ok-reserve-in-None.ensures.items)
    (index_grows (λ o. head_shown o) c.args.heads.now.items (index_of c.args.index.now) c.args.origin.now c.requires (index_of c.add.new.self) c.len.result _
    (omega (arith, c.len.ensures, c.args.heads.now.ok.0)) c.in_ok-from_str-in-None.ensures.ok c.in_ok-add-in-None.ensures.added)

pub push_reserved-requires : goal.push_reserved-requires
push_reserved-requires g c = grind (arith, common_steps)

pub returns-in_err-add-in-None-clause-indexed : goal.returns-in_err-add-in-None-clause-indexed
returns-in_err-add-in-None-clause-indexed g c = grind (arith, common_steps)

pub returns-in_err-from_str-in-None-clause-indexed : goal.returns-in_err-from_str-in-None-clause-indexed
returns-in_err-from_str-in-None-clause-indexed g c = grind (arith, common_steps)

pub returns-in_err-from_str-in-None-clause-taken : goal.returns-in_err-from_str-in-None-clause-taken
returns-in_err-from_str-in-None-clause-taken g c = grind (arith, common_steps)

pub returns-in_err-reserve-in-None-clause-indexed : goal.returns-in_err-reserve-in-None-clause-indexed
returns-in_err-reserve-in-None-clause-indexed g c = grind (arith, common_steps)

pub returns-in_err-reserve-in-None-clause-taken : goal.returns-in_err-reserve-in-None-clause-taken
returns-in_err-reserve-in-None-clause-taken g c = grind (arith, common_steps)

pub returns-in_ok-add-in-None-clause-taken : goal.returns-in_ok-add-in-None-clause-taken
returns-in_ok-add-in-None-clause-taken g c = grind (arith, common_steps)

pub returns-then-not-is_first-clause-taken : goal.returns-then-not-is_first-clause-taken
returns-then-not-is_first-clause-taken g c = grind (arith, common_steps)
