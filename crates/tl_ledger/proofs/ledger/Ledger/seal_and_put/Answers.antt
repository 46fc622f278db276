use Rattle.std.proofs.Common.{◌∷◌, ◌++◌, [], List, map, vec_items, subst, sym, arith}
use Rattle.std.proofs.lemmas.Grind.{common_steps}
use Rattle.sha2.specs.Sha256.{sha256}
use Rattle.tl_log.specs.Histories.{Prefix}
use Rattle.tl_archive.specs.Complete.{IsFor}
use Rattle.tl_archive.specs.Shelves.{Kept}
use Rattle.tl_ledger.specs.Keeping.{IsKeeping, published}
use Rattle.tl_ledger.specs.Inner.Putting.{KeepsAt}
use Rattle.tl_ledger.proofs.Beside.{on_err_any}
use Rattle.tl_ledger.proofs.Keeping.{copied, last_seen, marked_kept, marked_safe, same_trace, unasked_kept, within}
use Rattle.tl_ledger.proofs.ledger.Ledger.seal_and_put.Goals as goal

pub returns-in_err-edge-clause-stayed : goal.returns-in_err-edge-clause-stayed
returns-in_err-edge-clause-stayed g c = λ history log was.
    on_err_any c.from_residual.result (unasked_kept history log c.args.note.now (g.S.Shelf.kept c.args.shelf.now) c.args.self.now.edge c.args.self.now.bundle was)

pub returns-in_err-edge-clause-safe : goal.returns-in_err-edge-clause-safe
returns-in_err-edge-clause-safe g c = λ history log was. same_trace (history ++ published log c.args.note.now ∷ []) (g.S.Shelf.trace c.args.shelf.now)

pub returns-in_err-bundle-clause-stayed : goal.returns-in_err-bundle-clause-stayed
returns-in_err-bundle-clause-stayed g c = λ history log was.
    on_err_any c.from_residual-in_err-bundle.result (unasked_kept history log c.args.note.now (g.S.Shelf.kept c.args.shelf.now) c.args.self.now.edge c.args.self.now.bundle was)

pub returns-in_err-bundle-clause-safe : goal.returns-in_err-bundle-clause-safe
returns-in_err-bundle-clause-safe g c = λ history log was. same_trace (history ++ published log c.args.note.now ∷ []) (g.S.Shelf.trace c.args.shelf.now)

pub returns-in_err-put_beside-clause-stayed : goal.returns-in_err-put_beside-clause-stayed
returns-in_err-put_beside-clause-stayed g c = λ history log was.
    let after : List Prefix = history ++ published log c.args.note.now ∷ [] in
    let own : KeepsAt sha256 history log (g.S.Shelf.kept c.args.shelf.now) c.self.inside.edge c.self.inside.bundle.items = within history log (g.S.Shelf.kept c.args.shelf.now) _ _ (sym c.self.view_is) was in
    let bundle = c.in_ok-bundle.ensures in
    let copy : KeepsAt sha256 history log (g.S.Shelf.kept c.args.shelf.now) c.in_ok-edge.edge c.in_ok-bundle.bundle.items =
    copied history log (g.S.Shelf.kept c.args.shelf.now) c.self.inside.edge c.in_ok-edge.edge c.self.inside.bundle.items c.in_ok-bundle.bundle.items c.in_ok-edge.ensures.size c.in_ok-edge.ensures.kept bundle own in
    let stayed : IsKeeping sha256 after log (g.S.Shelf.kept c.put_beside.new.shelf) c.args.self.now =
    within after log (g.S.Shelf.kept c.put_beside.new.shelf) _ _ c.self.view_is (copied after log (g.S.Shelf.kept c.put_beside.new.shelf) c.in_ok-edge.edge c.self.inside.edge c.in_ok-bundle.bundle.items c.self.inside.bundle.items (sym c.in_ok-edge.ensures.size) (sym c.in_ok-edge.ensures.kept) (sym bundle)
    (c.put_beside.ensures.stayed history log copy)) in
    on_err_any c.from_residual-in_err-put_beside.result stayed

pub returns-in_err-put_beside-clause-safe : goal.returns-in_err-put_beside-clause-safe
returns-in_err-put_beside-clause-safe g c = λ history log was.
    let own : KeepsAt sha256 history log (g.S.Shelf.kept c.args.shelf.now) c.self.inside.edge c.self.inside.bundle.items = within history log (g.S.Shelf.kept c.args.shelf.now) _ _ (sym c.self.view_is) was in
    let bundle = c.in_ok-bundle.ensures in
    let copy : KeepsAt sha256 history log (g.S.Shelf.kept c.args.shelf.now) c.in_ok-edge.edge c.in_ok-bundle.bundle.items =
    copied history log (g.S.Shelf.kept c.args.shelf.now) c.self.inside.edge c.in_ok-edge.edge c.self.inside.bundle.items c.in_ok-bundle.bundle.items c.in_ok-edge.ensures.size c.in_ok-edge.ensures.kept bundle own in
    c.put_beside.ensures.safe history log copy

pub returns-in_err-mark_published-clause-stayed : goal.returns-in_err-mark_published-clause-stayed
returns-in_err-mark_published-clause-stayed g c = λ history log was.
    let after : List Prefix = history ++ published log c.args.note.now ∷ [] in
    let own : KeepsAt sha256 history log (g.S.Shelf.kept c.args.shelf.now) c.self.inside.edge c.self.inside.bundle.items = within history log (g.S.Shelf.kept c.args.shelf.now) _ _ (sym c.self.view_is) was in
    let bundle = c.in_ok-bundle.ensures in
    let copy : KeepsAt sha256 history log (g.S.Shelf.kept c.args.shelf.now) c.in_ok-edge.edge c.in_ok-bundle.bundle.items =
    copied history log (g.S.Shelf.kept c.args.shelf.now) c.self.inside.edge c.in_ok-edge.edge c.self.inside.bundle.items c.in_ok-bundle.bundle.items c.in_ok-edge.ensures.size c.in_ok-edge.ensures.kept bundle own in
    let stayed : IsKeeping sha256 after log (g.S.Shelf.kept c.put_beside.new.shelf) c.args.self.now =
    within after log (g.S.Shelf.kept c.put_beside.new.shelf) _ _ c.self.view_is (copied after log (g.S.Shelf.kept c.put_beside.new.shelf) c.in_ok-edge.edge c.self.inside.edge c.in_ok-bundle.bundle.items c.self.inside.bundle.items (sym c.in_ok-edge.ensures.size) (sym c.in_ok-edge.ensures.kept) (sym bundle)
    (c.put_beside.ensures.stayed history log copy)) in
    on_err_any c.from_residual-in_err-mark_published.result
    (marked_kept after log (g.S.Shelf.kept c.put_beside.new.shelf) (g.S.Shelf.kept c.mark_published.new.self) c.args.self.now.edge c.args.self.now.bundle c.mark_published.ensures.kept stayed)

pub returns-in_err-mark_published-clause-safe : goal.returns-in_err-mark_published-clause-safe
returns-in_err-mark_published-clause-safe g c = λ history log was.
    let after : List Prefix = history ++ published log c.args.note.now ∷ [] in
    let own : KeepsAt sha256 history log (g.S.Shelf.kept c.args.shelf.now) c.self.inside.edge c.self.inside.bundle.items = within history log (g.S.Shelf.kept c.args.shelf.now) _ _ (sym c.self.view_is) was in
    let bundle = c.in_ok-bundle.ensures in
    let copy : KeepsAt sha256 history log (g.S.Shelf.kept c.args.shelf.now) c.in_ok-edge.edge c.in_ok-bundle.bundle.items =
    copied history log (g.S.Shelf.kept c.args.shelf.now) c.self.inside.edge c.in_ok-edge.edge c.self.inside.bundle.items c.in_ok-bundle.bundle.items c.in_ok-edge.ensures.size c.in_ok-edge.ensures.kept bundle own in
    marked_safe after log (g.S.Shelf.kept c.put_beside.new.shelf) (g.S.Shelf.kept c.mark_published.new.self) c.in_ok-edge.edge c.in_ok-bundle.bundle.items (g.S.Shelf.trace c.args.shelf.now) (g.S.Shelf.trace c.put_beside.new.shelf) (g.S.Shelf.trace c.mark_published.new.self)
    c.mark_published.ensures.kept (c.put_beside.ensures.stayed history log copy) c.mark_published.ensures.trace (c.put_beside.ensures.safe history log copy)

pub returns-clause-safe : goal.returns-clause-safe
returns-clause-safe g c = λ history log was.
    let after : List Prefix = history ++ published log c.args.note.now ∷ [] in
    let own : KeepsAt sha256 history log (g.S.Shelf.kept c.args.shelf.now) c.self.inside.edge c.self.inside.bundle.items = within history log (g.S.Shelf.kept c.args.shelf.now) _ _ (sym c.self.view_is) was in
    let bundle = c.in_ok-bundle.ensures in
    let copy : KeepsAt sha256 history log (g.S.Shelf.kept c.args.shelf.now) c.in_ok-edge.edge c.in_ok-bundle.bundle.items =
    copied history log (g.S.Shelf.kept c.args.shelf.now) c.self.inside.edge c.in_ok-edge.edge c.self.inside.bundle.items c.in_ok-bundle.bundle.items c.in_ok-edge.ensures.size c.in_ok-edge.ensures.kept bundle own in
    marked_safe after log (g.S.Shelf.kept c.put_beside.new.shelf) (g.S.Shelf.kept c.mark_published.new.self) c.in_ok-edge.edge c.in_ok-bundle.bundle.items (g.S.Shelf.trace c.args.shelf.now) (g.S.Shelf.trace c.put_beside.new.shelf) (g.S.Shelf.trace c.mark_published.new.self)
    c.mark_published.ensures.kept (c.put_beside.ensures.stayed history log copy) c.mark_published.ensures.trace (c.put_beside.ensures.safe history log copy)

pub returns-clause-kept : goal.returns-clause-kept
returns-clause-kept g c = λ history log was.
    let own : KeepsAt sha256 history log (g.S.Shelf.kept c.args.shelf.now) c.self.inside.edge c.self.inside.bundle.items = within history log (g.S.Shelf.kept c.args.shelf.now) _ _ (sym c.self.view_is) was in
    let bundle = c.in_ok-bundle.ensures in
    let copy : KeepsAt sha256 history log (g.S.Shelf.kept c.args.shelf.now) c.in_ok-edge.edge c.in_ok-bundle.bundle.items =
    copied history log (g.S.Shelf.kept c.args.shelf.now) c.self.inside.edge c.in_ok-edge.edge c.self.inside.bundle.items c.in_ok-bundle.bundle.items c.in_ok-edge.ensures.size c.in_ok-edge.ensures.kept bundle own in
    marked_kept (history ++ published log c.args.note.now ∷ []) (log ++ map vec_items c.args.entries.now) (g.S.Shelf.kept c.put_beside.new.shelf) (g.S.Shelf.kept c.mark_published.new.self) c.put_beside.new.edge c.put_beside.new.bundle.items
    c.mark_published.ensures.kept (c.in_ok-put_beside.ensures.kept history log copy)

pub returns-clause-there : goal.returns-clause-there
returns-clause-there g c = λ history log was.
    let own : KeepsAt sha256 history log (g.S.Shelf.kept c.args.shelf.now) c.self.inside.edge c.self.inside.bundle.items = within history log (g.S.Shelf.kept c.args.shelf.now) _ _ (sym c.self.view_is) was in
    let bundle = c.in_ok-bundle.ensures in
    let copy : KeepsAt sha256 history log (g.S.Shelf.kept c.args.shelf.now) c.in_ok-edge.edge c.in_ok-bundle.bundle.items =
    copied history log (g.S.Shelf.kept c.args.shelf.now) c.self.inside.edge c.in_ok-edge.edge c.self.inside.bundle.items c.in_ok-bundle.bundle.items c.in_ok-edge.ensures.size c.in_ok-edge.ensures.kept bundle own in
    subst (λ (k : Kept). IsFor sha256 (published log c.args.note.now) k.held) (sym c.mark_published.ensures.kept) (c.in_ok-put_beside.ensures.there history log copy)

pub returns-clause-seen : goal.returns-clause-seen
returns-clause-seen g c = last_seen (g.S.Shelf.kept c.mark_published.new.self) (g.S.Shelf.trace c.put_beside.new.shelf) (g.S.Shelf.trace c.mark_published.new.self) c.mark_published.ensures.trace

pub put_beside-requires-clause-room : goal.put_beside-requires-clause-room
put_beside-requires-clause-room g c = grind (arith, common_steps)

pub put_beside-requires-clause-short : goal.put_beside-requires-clause-short
put_beside-requires-clause-short g c = grind (arith, common_steps)

pub returns-clause-marked : goal.returns-clause-marked
returns-clause-marked g c = grind (arith, common_steps)

pub returns-clause-place : goal.returns-clause-place
returns-clause-place g c = grind (arith, common_steps)

pub returns-clause-size : goal.returns-clause-size
returns-clause-size g c = grind (arith, common_steps)

pub returns-clause-unfailed : goal.returns-clause-unfailed
returns-clause-unfailed g c = grind (arith, common_steps)

pub same-edge-2 : goal.same-edge-2
same-edge-2 g c = grind (arith, common_steps)
