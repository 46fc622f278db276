use Rattle.std.proofs.Common.{ap, refl, ◌∙◌}
use Rattle.left_right.specs.Sides.{view}
use Rattle.tl_publisher.specs.Stages.{visible}
use Rattle.sha2.specs.Sha256.{sha256}
use Rattle.tl_publisher.proofs.Stages.{rests-push, lays, same-ok}
use Rattle.tl_publisher.proofs.board_writer.lay.Goals as goal
use Rattle.tl_publisher.proofs.board_writer.lay.Goals.{in-Ok, in-Err}

pub settled-requires : goal.settled-requires
settled-requires g c =
    rw (c.in-Ok.ensures.desk, c.in-Ok.ensures.pending) (rests-push sha256 _ _ _ c.requires.rests c.requires.laid)

pub returns-clause-ok : goal.returns-clause-ok
returns-clause-ok g c = elim c.match-append.branch [
  | in-Ok w ↦ rw w.result-is (same-ok _ _ _ _ _ (rw (w.in-Ok.ensures.desk, w.in-Ok.ensures.pending) (lays sha256 _ _ _ c.requires.rests c.requires.laid)) w.settled.ensures.ok)
  | in-Err w ↦ rw w.result-is tt
]

pub returns-clause-rests : goal.returns-clause-rests
returns-clause-rests g c = elim c.match-append.branch [
  | in-Ok w ↦ rw w.result-is w.settled.ensures.rests
  | in-Err w ↦ rw (w.result-is, w.in-Err.ensures.desk, w.in-Err.ensures.pending.1) c.requires.rests
]

pub returns-clause-visible : goal.returns-clause-visible
returns-clause-visible g c = elim c.match-append.branch [
  | in-Ok w ↦ rw w.result-is (w.settled.ensures.visible ∙ ap (λ d. visible d.shown.value) w.in-Ok.ensures.desk)
  | in-Err w ↦ rw (w.result-is, w.in-Err.ensures.desk) refl
]

pub returns-clause-view : goal.returns-clause-view
returns-clause-view g c = elim c.match-append.branch [
  | in-Ok w ↦ rw w.result-is (w.settled.ensures.view ∙ ap (λ d. view d.place) w.in-Ok.ensures.desk)
  | in-Err w ↦ rw (w.result-is, w.in-Err.ensures.desk) refl
]
