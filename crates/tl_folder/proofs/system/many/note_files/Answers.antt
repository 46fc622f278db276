use Rattle.std.proofs.Common.{◌≡◌, ap, sym, ◌∙◌, is_ok, string_bytes}
use Rattle.std.proofs.lemmas.Result.{err_from_is_err_and}
use Rattle.tl_folder.specs.Step.{Path}
use Rattle.tl_folder.specs.Step as step
use Rattle.tl_folder.specs.declared.staged.Staged.{Staged}
use Rattle.tl_folder.specs.Settling.{syncing}
use Rattle.tl_folder.specs.Inner.Staged.{move_of}
use Rattle.tl_folder.proofs.Beginnings.{is_err_at, stops, goes_on}
use Rattle.tl_folder.proofs.system.many.note_files.Goals as goal

asked : (path : Path) (file at : Staged) → path ≡ string_bytes at.beside → file ≡ at → step.Sync path ≡ syncing (move_of file)
asked path file at is same = ap (λ (p : Path). step.Sync p) is ∙ ap (λ (f : Staged). step.Sync (string_bytes f.beside)) (sym same)

pub returns-in_err-outcome : goal.returns-in_err-outcome
returns-in_err-outcome c =
    let p = err_from_is_err_and c.from_residual.result c.from_residual.ensures.1 in
    stops (λ file. syncing (move_of file)) c.args.staged.now c.loop-i.i c.index-staged-i.result _ _ _ _ _ c.from_residual.result (is_err_at c.from_residual.result p.0 p.1)
    c.loop-i-test.true c.index-staged-i.is c.loop-i.invariant c.note.ensures (asked _ _ _ c.as_str.ensures.value c.index-staged-i.is) (c.is_ok.ensures.value ∙ ap is_ok c.in_err-outcome.was)

pub loop-i-preserved : goal.loop-i-preserved
loop-i-preserved c =
    goes_on (λ file. syncing (move_of file)) c.args.staged.now c.loop-i.i c.index-staged-i.result _ _ _ _ _
    c.loop-i-test.true c.index-staged-i.is c.loop-i.invariant c.note.ensures (asked _ _ _ c.as_str.ensures.value c.index-staged-i.is) (c.is_ok.ensures.value ∙ ap is_ok c.in_ok-outcome.was)
