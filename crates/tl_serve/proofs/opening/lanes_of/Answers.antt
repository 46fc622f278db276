use Rattle.std.proofs.Common.{◌<◌, ap, refl, length, vec_items, arith}
use Rattle.std.proofs.lemmas.Grind.{common_steps}
use Rattle.tl_serve.specs.declared.lanes.Sending.{Sending}
use Rattle.tl_serve.proofs.Lists.{first_list, one_paired, one_sent}
use Rattle.tl_serve.proofs.opening.lanes_of.Goals as goal

pub loop-submitter-preserved : goal.loop-submitter-preserved
loop-submitter-preserved c =
    let so_far = c.loop-submitter.invariant in
    let old = c.loop-submitter.lists.rest in
    let new = c.next-in-loop-submitter.new.self.rest in
    let step = c.in-Some.ensures.steps in
    let count = ap length step.0 in
    let entries = c.unwrap_or-entries.result in
    let some : 0 < old.len = omega (arith, so_far.lists_len, so_far.left, count) in
    let next = first_list old.items new.items old.len new.len c.next-in-loop-submitter.result c.new.result entries c.next-in-loop-submitter.ensures.cases some c.unwrap_or-entries.ensures in
    let lane : Sending = record { submitter = c.in-Some.submitter; entries = entries } in
    record {
      submitters = rw c.in_ok-push.ensures.items (one_paired (λ k. k.submitter) c.loop-submitter.lanes.items lane c.next.new.self.rest.items c.args.submitters.items
          c.loop-submitter.submitter-iterator.rest.items c.in-Some.submitter so_far.submitters step.0 refl);
      entries = rw c.in_ok-push.ensures.items (one_sent (λ k. vec_items k.entries) c.loop-submitter.lanes.items lane old.items new.items entries (length c.args.submitters.items)
          c.args.entries.items so_far.entries next.0 refl);
      left = omega (arith, so_far.left, count, ap length next.0);
      len = omega (arith, so_far.len, count, step.1);
      lists_len = omega (arith, so_far.lists_len, ap length next.0, next.1);
    }

pub loop-submitter-init : goal.loop-submitter-init
loop-submitter-init c = grind (arith, common_steps)

pub returns-clause-entries : goal.returns-clause-entries
returns-clause-entries c = grind (arith, common_steps)

pub returns-clause-submitters : goal.returns-clause-submitters
returns-clause-submitters c = grind (arith, common_steps)
