use Rattle.std.proofs.Common.{string_bytes}
use Rattle.std.proofs.lemmas.Result.{err_from_is_err_and}
use Rattle.tl_folder.specs.Inner.Staged.{move_of}
use Rattle.tl_folder.proofs.Beginnings.{is_err_at, sync_stops, place_stops, all_taken}
use Rattle.tl_folder.proofs.staged.put_staged.Goals as goal

pub returns-in_err-sync_files : goal.returns-in_err-sync_files
returns-in_err-sync_files g c =
    let p = err_from_is_err_and c.from_residual.result c.from_residual.ensures.1 in
    sync_stops move_of string_bytes c.args.staged.now c.args.folders.now _ _ c.sync_files.result c.from_residual.result
    (is_err_at c.sync_files.result _ c.in_err-sync_files.was) (is_err_at c.from_residual.result p.0 p.1) c.sync_files.ensures

pub returns-in_err-place_staged : goal.returns-in_err-place_staged
returns-in_err-place_staged g c =
    let p = err_from_is_err_and c.from_residual-in_err-place_staged.result c.from_residual-in_err-place_staged.ensures.1 in
    place_stops move_of string_bytes c.args.staged.now c.args.folders.now _ _ _ c.place_staged.result c.from_residual-in_err-place_staged.result
    (is_err_at c.place_staged.result _ c.in_err-place_staged.was) (is_err_at c.from_residual-in_err-place_staged.result p.0 p.1) c.in_ok-sync_files.ensures c.place_staged.ensures

pub returns : goal.returns
returns g c =
    all_taken move_of string_bytes c.args.staged.now c.args.folders.now _ _ _ _ c.sync_folders.result c.in_ok-sync_files.ensures c.in_ok-place_staged.ensures c.sync_folders.ensures
