use Rattle.std.proofs.Common.{map, vec_items, arith}
use Rattle.std.proofs.lemmas.Grind.{common_steps}
use Rattle.tl_ledger.proofs.Beside.{beside_stayed, beside_safe, beside_there, beside_whole}
use Rattle.tl_ledger.proofs.putting.put_beside.Goals as goal

pub returns-in_err-staged-clause-stayed : goal.returns-in_err-staged-clause-stayed
returns-in_err-staged-clause-stayed g c = λ history log was.
    beside_stayed history log (map vec_items c.args.entries.now) c.args.note.now _ _ _ was (g.S.Shelf.kept c.stage_beside-staged.new.shelf) (g.S.Shelf.kept c.settle-settled.new.self) (g.S.Shelf.trace c.args.shelf.now) (g.S.Shelf.trace c.stage_beside-staged.new.shelf) (g.S.Shelf.trace c.settle-settled.new.self)
    (c.stage_beside-staged.ensures.adds log was.stands) c.settle-settled.ensures.unstaged c.settle-settled.ensures.trace

pub returns-in_err-staged-clause-safe : goal.returns-in_err-staged-clause-safe
returns-in_err-staged-clause-safe g c = λ history log was.
    beside_safe history log (map vec_items c.args.entries.now) c.args.note.now _ _ _ was (g.S.Shelf.kept c.stage_beside-staged.new.shelf) (g.S.Shelf.kept c.settle-settled.new.self) (g.S.Shelf.trace c.args.shelf.now) (g.S.Shelf.trace c.stage_beside-staged.new.shelf) (g.S.Shelf.trace c.settle-settled.new.self)
    (c.stage_beside-staged.ensures.adds log was.stands) c.settle-settled.ensures.unstaged c.settle-settled.ensures.trace

pub returns-in_err-settled-clause-stayed : goal.returns-in_err-settled-clause-stayed
returns-in_err-settled-clause-stayed g c = λ history log was.
    beside_stayed history log (map vec_items c.args.entries.now) c.args.note.now _ _ _ was (g.S.Shelf.kept c.stage_beside-staged.new.shelf) (g.S.Shelf.kept c.settle-settled.new.self) (g.S.Shelf.trace c.args.shelf.now) (g.S.Shelf.trace c.stage_beside-staged.new.shelf) (g.S.Shelf.trace c.settle-settled.new.self)
    (c.stage_beside-staged.ensures.adds log was.stands) c.settle-settled.ensures.unstaged c.settle-settled.ensures.trace

pub returns-in_err-settled-clause-safe : goal.returns-in_err-settled-clause-safe
returns-in_err-settled-clause-safe g c = λ history log was.
    beside_safe history log (map vec_items c.args.entries.now) c.args.note.now _ _ _ was (g.S.Shelf.kept c.stage_beside-staged.new.shelf) (g.S.Shelf.kept c.settle-settled.new.self) (g.S.Shelf.trace c.args.shelf.now) (g.S.Shelf.trace c.stage_beside-staged.new.shelf) (g.S.Shelf.trace c.settle-settled.new.self)
    (c.stage_beside-staged.ensures.adds log was.stands) c.settle-settled.ensures.unstaged c.settle-settled.ensures.trace

pub returns-clause-stayed : goal.returns-clause-stayed
returns-clause-stayed g c = λ history log was.
    beside_stayed history log (map vec_items c.args.entries.now) c.args.note.now _ _ _ was (g.S.Shelf.kept c.stage_beside-staged.new.shelf) (g.S.Shelf.kept c.settle-settled.new.self) (g.S.Shelf.trace c.args.shelf.now) (g.S.Shelf.trace c.stage_beside-staged.new.shelf) (g.S.Shelf.trace c.settle-settled.new.self)
    (c.stage_beside-staged.ensures.adds log was.stands) c.settle-settled.ensures.unstaged c.settle-settled.ensures.trace

pub returns-clause-safe : goal.returns-clause-safe
returns-clause-safe g c = λ history log was.
    beside_safe history log (map vec_items c.args.entries.now) c.args.note.now _ _ _ was (g.S.Shelf.kept c.stage_beside-staged.new.shelf) (g.S.Shelf.kept c.settle-settled.new.self) (g.S.Shelf.trace c.args.shelf.now) (g.S.Shelf.trace c.stage_beside-staged.new.shelf) (g.S.Shelf.trace c.settle-settled.new.self)
    (c.stage_beside-staged.ensures.adds log was.stands) c.settle-settled.ensures.unstaged c.settle-settled.ensures.trace

pub returns-clause-there : goal.returns-clause-there
returns-clause-there g c = λ history log was.
    beside_there history log (map vec_items c.args.entries.now) c.args.note.now _ _ _ was (g.S.Shelf.kept c.stage_beside-staged.new.shelf) (g.S.Shelf.kept c.settle-settled.new.self) (g.S.Shelf.trace c.args.shelf.now) (g.S.Shelf.trace c.stage_beside-staged.new.shelf) (g.S.Shelf.trace c.settle-settled.new.self)
    (c.stage_beside-staged.ensures.adds log was.stands) c.settle-settled.ensures.unstaged c.settle-settled.ensures.trace c.in_ok-settled.ensures.settled (c.in_ok-staged.ensures.note log was.stands)

pub returns-clause-kept : goal.returns-clause-kept
returns-clause-kept g c = λ history log was.
    beside_whole history log (map vec_items c.args.entries.now) c.args.note.now _ _ _ was (g.S.Shelf.kept c.stage_beside-staged.new.shelf) (g.S.Shelf.kept c.settle-settled.new.self) (g.S.Shelf.trace c.args.shelf.now) (g.S.Shelf.trace c.stage_beside-staged.new.shelf) (g.S.Shelf.trace c.settle-settled.new.self)
    (c.stage_beside-staged.ensures.adds log was.stands) c.settle-settled.ensures.unstaged c.settle-settled.ensures.trace c.in_ok-settled.ensures.settled (c.in_ok-staged.ensures.all log was.stands) _ _ (c.in_ok-staged.ensures.stands log was.stands)

pub stage_beside-staged-requires-clause-short : goal.stage_beside-staged-requires-clause-short
stage_beside-staged-requires-clause-short g c = grind (arith, common_steps)
