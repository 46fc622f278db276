use Rattle.std.proofs.Common.{[], ◌∷◌, length, refl, arith, ap}
use Rattle.std.proofs.lemmas.Grind.{common_steps}
use Rattle.std.proofs.lemmas.List.{length-append}
use Rattle.tl_witness.proofs.Moved.{moved, moved_all}
use Rattle.tl_witness.proofs.SharedLaws.{later_all, later_push}
use Rattle.tl_witness.proofs.shared.SharedWitness.into_book.Goals as goal

pub loop-guarded-init : goal.loop-guarded-init
loop-guarded-init g c =
    let same = c.into_iter-guarded-iterator.ensures.into_iter_gives in
    let room = c.in-Ok.ensures in
    let none = ap length room.0 in
    let all = ap length same.0 in
    (tt, tt, rw same.0 refl, omega arith, omega (arith, c.args.self.states.ok.0), rw room.0 refl)

pub push_reserved-requires : goal.push_reserved-requires
push_reserved-requires g c =
    let step = ap length c.in-Some.ensures.steps.0 in
    omega (arith, c.loop-guarded.states.ok.0, c.loop-guarded.invariant.3)

pub loop-guarded-preserved : goal.loop-guarded-preserved
loop-guarded-preserved g c =
    let step = ap length c.in-Some.ensures.steps.0 in
    let pushed = ap length c.push_reserved.ensures.items in
    let longer = length-append c.loop-guarded.states.items (c.into_state.result ∷ []) in (
      tt,
      tt,
      moved _ _ c.loop-guarded.yielded c.in-Some.guarded c.in-Some.guarded _ c.next.new.self.rest.items _ refl c.in-Some.ensures.steps.0 c.loop-guarded.invariant.2,
      omega (arith, c.push_reserved.ensures.capacity, c.loop-guarded.invariant.3),
      omega (arith, c.in-Some.ensures.steps.1, c.loop-guarded.invariant.4),
      rw c.push_reserved.ensures.items (later_push g.T.TreeHash.digest_of _ _ c.loop-guarded.yielded c.loop-guarded.states.items c.in-Some.guarded c.into_state.result c.loop-guarded.invariant.5 c.into_state.ensures),
    )

pub returns-clause-ok : goal.returns-clause-ok
returns-clause-ok g c =
    let whole = moved_all _ _ c.loop-guarded.yielded c.loop-guarded.guarded-iterator.rest.items _ (omega (arith, c.in-None.ensures.steps.0, c.loop-guarded.invariant.4)) c.loop-guarded.invariant.2 in
    later_all g.T.TreeHash.digest_of _ _ _ whole c.loop-guarded.invariant.5

pub loop-guarded-init-derived : goal.loop-guarded-init-derived
loop-guarded-init-derived g c = grind (arith, common_steps)

pub loop-guarded-preserved-derived : goal.loop-guarded-preserved-derived
loop-guarded-preserved-derived g c = grind (arith, common_steps)

pub returns-clause-err : goal.returns-clause-err
returns-clause-err g c = grind (arith, common_steps)
