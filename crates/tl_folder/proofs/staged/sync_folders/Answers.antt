use Rattle.std.proofs.Common.{ap, is_ok, string_bytes, arith}
use Rattle.std.proofs.lemmas.Grind.{common_steps}
use Rattle.std.proofs.lemmas.Result.{err_from_is_err_and}
use Rattle.tl_folder.specs.Step.{Path}
use Rattle.tl_folder.specs.Step as step
use Rattle.tl_folder.specs.Settling.{naming}
use Rattle.tl_folder.proofs.Beginnings.{is_err_at, stops, goes_on}
use Rattle.tl_folder.proofs.staged.sync_folders.Goals as goal

pub returns-in_err-sync_folder : goal.returns-in_err-sync_folder
returns-in_err-sync_folder g c =
    let p = err_from_is_err_and c.from_residual.result c.from_residual.ensures.1 in
    stops (λ folder. naming (string_bytes folder)) c.args.folders.now c.loop-folder.folder-index c.folder-item.result _ _ _ _ _ c.from_residual.result (is_err_at c.from_residual.result p.0 p.1)
    c.loop-folder-test.true c.folder-item.is c.loop-folder.invariant c.sync_folder.ensures (ap (λ (p : Path). step.SyncFolder p) c.as_str.ensures.value) (ap is_ok c.in_err-sync_folder.was)

pub loop-folder-preserved : goal.loop-folder-preserved
loop-folder-preserved g c =
    goes_on (λ folder. naming (string_bytes folder)) c.args.folders.now c.loop-folder.folder-index c.folder-item.result _ _ _ _ _
    c.loop-folder-test.true c.folder-item.is c.loop-folder.invariant c.sync_folder.ensures (ap (λ (p : Path). step.SyncFolder p) c.as_str.ensures.value) (ap is_ok c.in_ok-sync_folder.was)

pub returns : goal.returns
returns g c = grind (arith, common_steps)
