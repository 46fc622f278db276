use Rattle.std.proofs.Common.{All, subst, sym, ap, length, arith}
use Rattle.std.proofs.lemmas.Grind.{common_steps}
use Rattle.std.proofs.lemmas.List.Elements.{All-push, All-head, All-tail}
use Rattle.tl_sequencer.specs.Log.{IsEndOf, IsSenderOf}
use Rattle.tl_serve.proofs.Ends.{end_of}
use Rattle.tl_serve.proofs.lanes.join_lanes.Goals as goal

-- one that has no end
pub loop-thread-preserved-in_default : goal.loop-thread-preserved-in_default
loop-thread-preserved-in_default g c =
    let step = ap length c.in-Some.ensures.steps.0 in (
      λ log all.
          let so_far = c.loop-thread.invariant.0 log all in (
            so_far.0,
            All-tail (λ h. IsSenderOf h.promise.0.value log) c.in-Some.thread c.next.new.self.rest.items (subst (All (λ h. IsSenderOf h.promise.0.value log)) c.in-Some.ensures.steps.0 so_far.1),
          ),
      omega (arith, step, c.in-Some.ensures.steps.1, c.loop-thread.invariant.1),
    )

-- one that has an end
pub loop-thread-preserved : goal.loop-thread-preserved
loop-thread-preserved g c =
    let step = ap length c.in-Some.ensures.steps.0 in (
      λ log all.
          let so_far = c.loop-thread.invariant.0 log all in
          let left = subst (All (λ h. IsSenderOf h.promise.0.value log)) c.in-Some.ensures.steps.0 so_far.1 in
          let own = All-head (λ h. IsSenderOf h.promise.0.value log) c.in-Some.thread c.next.new.self.rest.items left in (
            subst (All (λ e. IsEndOf e log)) (sym c.in_ok-push.ensures.items)
                (All-push (λ e. IsEndOf e log) c.loop-thread.ends.items c.in-Some-ended.ended so_far.0
                (end_of c.in-Some.thread.promise.0.value log c.join-ended.result.ended c.in-Some-ended.ended own c.join-ended.ensures c.in-Some-ended.is)),
            All-tail (λ h. IsSenderOf h.promise.0.value log) c.in-Some.thread c.next.new.self.rest.items left,
          ),
      omega (arith, step, c.in-Some.ensures.steps.1, c.loop-thread.invariant.1),
    )

pub loop-thread-preserved-derived : goal.loop-thread-preserved-derived
loop-thread-preserved-derived g c = grind (arith, common_steps)
