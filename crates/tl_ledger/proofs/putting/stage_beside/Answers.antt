use Rattle.std.proofs.Common.{◌++◌, inl, inr, ℕ, List, map, vec_items, refl, arith}
use Rattle.std.proofs.lemmas.Grind.{common_steps}
use Rattle.sha2.specs.Sha256.{sha256}
use Rattle.tl_tile.specs.declared.resource.Resource.TheVariants as resource
use Rattle.tl_ledger.specs.Inner.Putting.{IsBeside, IsRight}
use Rattle.tl_ledger.proofs.Staging.{adds_fault, adds_on, adds_one, adds_wide, staged_one}
use Rattle.tl_ledger.proofs.putting.stage_beside.Goals as goal

pub returns-in_err-stage-clause-adds : goal.returns-in_err-stage-clause-adds
returns-in_err-stage-clause-adds g c = λ front stands.
    adds_fault (IsBeside sha256 (front ++ map vec_items c.args.entries.now) c.args.note.now) (g.S.Shelf.kept c.args.shelf.now) (g.S.Shelf.kept c.stage.new.self) (g.S.Shelf.trace c.args.shelf.now) (g.S.Shelf.trace c.stage.new.self)
    c.in_err-stage.ensures.unstaged c.stage.ensures.trace

pub returns-in_err-stage_all-clause-adds : goal.returns-in_err-stage_all-clause-adds
returns-in_err-stage_all-clause-adds g c = λ front stands.
    let after : List (List ℕ) = front ++ map vec_items c.args.entries.now in
    adds_on (IsBeside sha256 after c.args.note.now) (g.S.Shelf.kept c.args.shelf.now) (g.S.Shelf.kept c.stage.new.self) (g.S.Shelf.kept c.stage_all.new.shelf) (g.S.Shelf.trace c.args.shelf.now) (g.S.Shelf.trace c.stage.new.self) (g.S.Shelf.trace c.stage_all.new.shelf)
    (adds_one (IsBeside sha256 after c.args.note.now) (g.S.Shelf.kept c.args.shelf.now) (g.S.Shelf.kept c.stage.new.self) (g.S.Shelf.trace c.args.shelf.now) (g.S.Shelf.trace c.stage.new.self) resource.Checkpoint c.args.note.now c.in_ok-stage.ensures.staged c.stage.ensures.trace (inl refl))
    (adds_wide (IsRight sha256 after) (IsBeside sha256 after c.args.note.now) (g.S.Shelf.kept c.stage.new.self) (g.S.Shelf.kept c.stage_all.new.shelf) (g.S.Shelf.trace c.stage.new.self) (g.S.Shelf.trace c.stage_all.new.shelf) (λ item is. inr is) (c.stage_all.ensures.adds front stands))

pub returns-clause-adds : goal.returns-clause-adds
returns-clause-adds g c = λ front stands.
    let after : List (List ℕ) = front ++ map vec_items c.args.entries.now in
    adds_on (IsBeside sha256 after c.args.note.now) (g.S.Shelf.kept c.args.shelf.now) (g.S.Shelf.kept c.stage.new.self) (g.S.Shelf.kept c.stage_all.new.shelf) (g.S.Shelf.trace c.args.shelf.now) (g.S.Shelf.trace c.stage.new.self) (g.S.Shelf.trace c.stage_all.new.shelf)
    (adds_one (IsBeside sha256 after c.args.note.now) (g.S.Shelf.kept c.args.shelf.now) (g.S.Shelf.kept c.stage.new.self) (g.S.Shelf.trace c.args.shelf.now) (g.S.Shelf.trace c.stage.new.self) resource.Checkpoint c.args.note.now c.in_ok-stage.ensures.staged c.stage.ensures.trace (inl refl))
    (adds_wide (IsRight sha256 after) (IsBeside sha256 after c.args.note.now) (g.S.Shelf.kept c.stage.new.self) (g.S.Shelf.kept c.stage_all.new.shelf) (g.S.Shelf.trace c.stage.new.self) (g.S.Shelf.trace c.stage_all.new.shelf) (λ item is. inr is) (c.stage_all.ensures.adds front stands))

pub returns-clause-stands : goal.returns-clause-stands
returns-clause-stands g c = λ front stands. c.in_ok-stage_all.ensures.stands front stands

pub returns-clause-all : goal.returns-clause-all
returns-clause-all g c = λ front stands. c.in_ok-stage_all.ensures.all front stands

pub returns-clause-note : goal.returns-clause-note
returns-clause-note g c = λ front stands.
    (c.stage_all.ensures.adds front stands).keeps (resource.Checkpoint, c.args.note.now)
    (staged_one (g.S.Shelf.kept c.args.shelf.now) (g.S.Shelf.kept c.stage.new.self) resource.Checkpoint c.args.note.now c.in_ok-stage.ensures.staged)

pub stage_all-requires-clause-short : goal.stage_all-requires-clause-short
stage_all-requires-clause-short g c = grind (arith, common_steps)
