use Rattle.std.proofs.Common.{ap, ◌∙◌, is_ok, string_bytes}
use Rattle.std.proofs.lemmas.Result.{err_from_is_err_and}
use Rattle.tl_folder.specs.Step.{Path}
use Rattle.tl_folder.specs.Step as step
use Rattle.tl_folder.specs.Settling.{naming}
use Rattle.tl_folder.proofs.Beginnings.{is_err_at, stops, goes_on}
use Rattle.tl_folder.proofs.system.many.note_folders.Goals as goal

pub returns-in_err-outcome : goal.returns-in_err-outcome
returns-in_err-outcome c =
    let p = err_from_is_err_and c.from_residual.result c.from_residual.ensures.1 in
    stops (λ folder. naming (string_bytes folder)) c.args.folders.now c.loop-i.i c.index-folders-i.result _ _ _ _ _ c.from_residual.result (is_err_at c.from_residual.result p.0 p.1)
    c.loop-i-test.true c.index-folders-i.is c.loop-i.invariant c.note.ensures (ap (λ (p : Path). step.SyncFolder p) c.as_str.ensures.value) (c.is_ok.ensures.value ∙ ap is_ok c.in_err-outcome.was)

pub loop-i-preserved : goal.loop-i-preserved
loop-i-preserved c =
    goes_on (λ folder. naming (string_bytes folder)) c.args.folders.now c.loop-i.i c.index-folders-i.result _ _ _ _ _
    c.loop-i-test.true c.index-folders-i.is c.loop-i.invariant c.note.ensures (ap (λ (p : Path). step.SyncFolder p) c.as_str.ensures.value) (c.is_ok.ensures.value ∙ ap is_ok c.in_ok-outcome.was)
