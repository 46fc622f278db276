use Rattle.std.proofs.Common.{[], ◌∷◌, length, refl, arith, ap}
use Rattle.std.proofs.lemmas.Grind.{common_steps}
use Rattle.std.proofs.lemmas.List.{length-append}
use Rattle.tl_witness.proofs.Moved.{moved, moved_all}
use Rattle.tl_witness.proofs.shared.SharedWitness.new.Goals as goal

pub loop-state-init : goal.loop-state-init
loop-state-init g c =
    let same = c.into_iter-state-iterator.ensures.into_iter_gives in
    let room = c.in-Ok.ensures in
    let none = ap length room.0 in
    let all = ap length same.0 in
    (tt, tt, rw (room.0, same.0) refl, omega arith, omega (arith, c.args.book.states.ok.0))

pub push_reserved-requires : goal.push_reserved-requires
push_reserved-requires g c =
    let step = ap length c.in-Some.ensures.steps.0 in
    omega (arith, c.loop-state.states.ok.0, c.loop-state.invariant.3)

pub loop-state-preserved : goal.loop-state-preserved
loop-state-preserved g c =
    let step = ap length c.in-Some.ensures.steps.0 in
    let pushed = ap length c.push_reserved.ensures.items in
    let longer = length-append c.loop-state.states.items (c.new.result ∷ []) in (
      tt,
      tt,
      rw c.push_reserved.ensures.items (moved _ _ c.loop-state.states.items c.new.result c.in-Some.state _ c.next.new.self.rest.items _ c.new.ensures c.in-Some.ensures.steps.0 c.loop-state.invariant.2),
      omega (arith, c.push_reserved.ensures.capacity, c.loop-state.invariant.3),
      omega (arith, c.in-Some.ensures.steps.1, c.loop-state.invariant.4),
    )

pub returns-clause-ok : goal.returns-clause-ok
returns-clause-ok g c =
    moved_all _ _ c.loop-state.states.items c.loop-state.state-iterator.rest.items _ (omega (arith, c.in-None.ensures.steps.0, c.loop-state.invariant.4)) c.loop-state.invariant.2

pub loop-state-init-derived : goal.loop-state-init-derived
loop-state-init-derived g c = grind (arith, common_steps)

pub loop-state-preserved-derived : goal.loop-state-preserved-derived
loop-state-preserved-derived g c = grind (arith, common_steps)

pub returns-clause-err : goal.returns-clause-err
returns-clause-err g c = grind (arith, common_steps)
