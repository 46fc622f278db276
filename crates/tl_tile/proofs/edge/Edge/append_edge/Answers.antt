use Rattle.std.proofs.Common.{length, get_or, sym, ap, ◌∙◌, arith}
use Rattle.std.proofs.lemmas.Grind.{common_steps}
use Rattle.tl_tile.proofs.JoinedEdges.{next_roots, tile-joined, all-joined}
use Rattle.tl_tile.proofs.edge.Edge.append_edge.Goals as goal

pub push_root-requires-clause-small : goal.push_root-requires-clause-small
push_root-requires-clause-small g c =
    let roots = next_roots c.args.next.now _ c.deref-root-items.result.now c.deref-root-items.ensures.value c.next.view_is c.next.invariant.0 c.requires.next_whole c.requires.next_small in
    omega (arith, c.loop-root.invariant.size, c.loop-root-test.true, ap length roots.0, roots.1, c.requires.small, ap (λ e. e.size) c.self.view_is)

pub loop-root-preserved : goal.loop-root-preserved
loop-root-preserved g c =
    let roots = next_roots c.args.next.now _ c.deref-root-items.result.now c.deref-root-items.ensures.value c.next.view_is c.next.invariant.0 c.requires.next_whole c.requires.next_small in
    let at = c.loop-root.invariant in
    let more = c.push_root.ensures in
    record {
      size = omega (arith, at.size, more.size);
      kept = omega (arith, at.kept, more.kept);
      room = omega (arith, at.room, more.room);
      entries = tile-joined g.T.TreeHash.digest_of (record { size = c.self.inside.size; kept = c.reserve.new.self.items; room = 0 }) c.args.next.now c.loop-root.self c.push_root.new.self
          c.loop-root.root-index c.root-item.result c.requires.next_whole c.requires.next_small roots.1
          (omega (arith, c.loop-root-test.true, ap length roots.0)) (c.root-item.is ∙ ap (λ hashes. get_or hashes c.loop-root.root-index c.root-item.result) roots.0)
          more.entries at.entries;
    }

pub returns-clause-entries : goal.returns-clause-entries
returns-clause-entries g c entries added is next =
    let roots = next_roots c.args.next.now _ c.deref-root-items.result.now c.deref-root-items.ensures.value c.next.view_is c.next.invariant.0 c.requires.next_whole c.requires.next_small in
    let sized = is.0 ∙ sym (ap (λ e. e.size) c.self.view_is) in
    let kept = c.in_ok-reserve.ensures.items ∙ ap (λ e. e.kept) c.self.view_is ∙ is.2 in
    all-joined g.T.TreeHash.digest_of c.args.next.now c.loop-root.self entries added c.loop-root.root-index roots.1 (omega (arith, c.loop-root-test.false, ap length roots.0)) next
    (c.loop-root.invariant.entries entries added (sized, is.1, kept) next)

pub returns-clause-size : goal.returns-clause-size
returns-clause-size g c =
    let roots = next_roots c.args.next.now _ c.deref-root-items.result.now c.deref-root-items.ensures.value c.next.view_is c.next.invariant.0 c.requires.next_whole c.requires.next_small in
    omega (arith, c.loop-root.invariant.size, c.loop-root-test.false, c.loop-root.auto.root-index-end, ap length roots.0, roots.1, ap (λ e. e.size) c.self.view_is)

pub push_root-requires-clause-room : goal.push_root-requires-clause-room
push_root-requires-clause-room g c = grind (arith, common_steps)

pub push_root-requires-clause-whole : goal.push_root-requires-clause-whole
push_root-requires-clause-whole g c = grind (arith, common_steps)
