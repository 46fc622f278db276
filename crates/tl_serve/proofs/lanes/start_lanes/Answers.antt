use Rattle.std.proofs.Common.{All, subst, sym, ap, length, arith}
use Rattle.std.proofs.lemmas.Grind.{common_steps}
use Rattle.std.proofs.lemmas.List.Elements.{All-push, All-head, All-tail}
use Rattle.tl_sequencer.specs.Log.{IsSenderOf}
use Rattle.tl_serve.proofs.lanes.start_lanes.Goals as goal

pub loop-lane-preserved : goal.loop-lane-preserved
loop-lane-preserved g c =
    let step = ap length c.in-Some.ensures.steps.0 in (
      λ log all.
          let so_far = c.loop-lane.invariant.0 log all in
          let left = subst (All (λ k. IsSenderOf k.submitter log)) c.in-Some.ensures.steps.0 so_far.1 in
          let own = All-head (λ k. IsSenderOf k.submitter log) c.in-Some.lane c.next.new.self.rest.items left in (
            subst (All (λ h. IsSenderOf h.promise.0.value log)) (sym c.in_ok-push.ensures.items)
                (All-push (λ h. IsSenderOf h.promise.0.value log) c.loop-lane.threads.items c.in_ok-thread.thread so_far.0 (subst (λ s. IsSenderOf s log) (sym c.in_ok-thread.ensures) own)),
            All-tail (λ k. IsSenderOf k.submitter log) c.in-Some.lane c.next.new.self.rest.items left,
          ),
      omega (arith, step, c.in-Some.ensures.steps.1, c.loop-lane.invariant.1),
    )

pub loop-lane-preserved-derived : goal.loop-lane-preserved-derived
loop-lane-preserved-derived g c = grind (arith, common_steps)
