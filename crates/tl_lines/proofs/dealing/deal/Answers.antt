use Rattle.std.proofs.Common.{◌+◌, ◌∙◌, ◌++◌, ◌∷◌, [], ap, sym, subst, length, map, vec_items, arith, append_assoc}
use Rattle.std.proofs.lemmas.Grind.{common_steps}
use Rattle.std.proofs.lemmas.List.{length_push}
use Rattle.tl_lines.specs.Dealt.{Deals}
use Rattle.tl_lines.proofs.DealtLemmas.{all_dealt, list_pushed, no_lane, none_dealt}
use Rattle.tl_lines.proofs.dealing.deal.Goals as goal

pub loop-entry-init : goal.loop-entry-init
loop-entry-init g c =
    let made = c.into_iter-entry-iterator.ensures.into_iter_gives in
    record {
      dealt = subst (λ lists. Deals c.args.lanes [] lists) (sym c.in_ok-lists.ensures.lists) (none_dealt c.args.lanes);
      turn = (0, omega arith, omega arith);
      all = made.0;
      len = omega (arith, made.1, c.args.entries.ok.0, ap length made.0);
    }

pub loop-entry-preserved-then-lane-lanes : goal.loop-entry-preserved-then-lane-lanes
loop-entry-preserved-then-lane-lanes g c =
    let so_far = c.loop-entry.invariant in
    let entry = c.in-Some.entry in
    let step = c.in-Some.ensures.steps in
    record {
      dealt = list_pushed c.args.lanes c.loop-entry.yielded c.loop-entry.lists.items entry c.index_mut-list.result.now c.push.new.self so_far.turn.0 c.loop-entry.lane so_far.dealt
          so_far.turn.1 so_far.turn.2 c.index_mut-list.ensures.value c.in_ok-push.ensures.items;
      turn = (so_far.turn.0, omega (arith, length_push c.loop-entry.yielded entry, so_far.turn.1), c.if-lane-lanes.true);
      all = append_assoc c.loop-entry.yielded (entry ∷ []) c.next.new.self.rest.items ∙ ap (λ rest. c.loop-entry.yielded ++ rest) (sym step.0) ∙ so_far.all;
      len = omega (arith, ap length step.0, step.1, so_far.len);
    }

pub loop-entry-preserved : goal.loop-entry-preserved
loop-entry-preserved g c =
    let so_far = c.loop-entry.invariant in
    let entry = c.in-Some.entry in
    let step = c.in-Some.ensures.steps in
    record {
      dealt = list_pushed c.args.lanes c.loop-entry.yielded c.loop-entry.lists.items entry c.index_mut-list.result.now c.push.new.self so_far.turn.0 c.loop-entry.lane so_far.dealt
          so_far.turn.1 so_far.turn.2 c.index_mut-list.ensures.value c.in_ok-push.ensures.items;
      turn = (so_far.turn.0 + 1, omega (arith, length_push c.loop-entry.yielded entry, so_far.turn.1, so_far.turn.2, c.if-lane-lanes.false), omega (arith, so_far.turn.2));
      all = append_assoc c.loop-entry.yielded (entry ∷ []) c.next.new.self.rest.items ∙ ap (λ rest. c.loop-entry.yielded ++ rest) (sym step.0) ∙ so_far.all;
      len = omega (arith, ap length step.0, step.1, so_far.len);
    }

pub returns-then-lanes-eq0-clause-dealt : goal.returns-then-lanes-eq0-clause-dealt
returns-then-lanes-eq0-clause-dealt g c =
    no_lane c.args.lanes c.args.entries.items (map vec_items c.in_ok-lists.lists.items) c.if-lanes-eq0.true c.in_ok-lists.ensures.lists

pub returns-clause-dealt : goal.returns-clause-dealt
returns-clause-dealt g c =
    let so_far = c.loop-entry.invariant in
    all_dealt c.args.lanes c.loop-entry.entry-iterator.rest.len c.args.entries.items c.loop-entry.yielded c.loop-entry.entry-iterator.rest.items
    (map vec_items c.loop-entry.lists.items) so_far.dealt so_far.all so_far.len c.in-None.ensures.steps.0

pub index_mut-list-requires : goal.index_mut-list-requires
index_mut-list-requires g c = grind (arith, common_steps)

pub loop-entry-preserved-derived : goal.loop-entry-preserved-derived
loop-entry-preserved-derived g c = grind (arith, common_steps)

pub loop-entry-preserved-then-lane-lanes-derived : goal.loop-entry-preserved-then-lane-lanes-derived
loop-entry-preserved-then-lane-lanes-derived g c = grind (arith, common_steps)

pub overflow_add-lane : goal.overflow_add-lane
overflow_add-lane g c = omega arith

pub overflow_add-lane-then-lane-lanes : goal.overflow_add-lane-then-lane-lanes
overflow_add-lane-then-lane-lanes g c = omega arith

pub returns-clause-memory : goal.returns-clause-memory
returns-clause-memory g c = grind (arith, common_steps)
