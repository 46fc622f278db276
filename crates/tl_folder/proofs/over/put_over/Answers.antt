use Rattle.std.proofs.lemmas.Result.{err_from_is_err_and}
use Rattle.tl_folder.proofs.Beginnings.{is_err_at}
use Rattle.tl_folder.proofs.Overs.{unsynced, unmoved, moved}
use Rattle.tl_folder.proofs.over.put_over.Goals as goal

pub returns-in_err-sync_if : goal.returns-in_err-sync_if
returns-in_err-sync_if g c =
    let p = err_from_is_err_and c.from_residual-in_err-sync_if.result c.from_residual-in_err-sync_if.ensures.1 in
    unsynced c.args.is_lasting c.args.aside.now c.args.place.now c.args.bytes.now _ _ _ c.sync_if.result c.from_residual-in_err-sync_if.result
    (is_err_at c.sync_if.result _ c.in_err-sync_if.was) (is_err_at c.from_residual-in_err-sync_if.result p.0 p.1) c.in_ok-write.ensures c.sync_if.ensures

pub returns-in_err-rename : goal.returns-in_err-rename
returns-in_err-rename g c =
    let p = err_from_is_err_and c.from_residual-in_err-rename.result c.from_residual-in_err-rename.ensures.1 in
    unmoved c.args.is_lasting c.args.aside.now c.args.place.now c.args.bytes.now _ _ _ _ c.from_residual-in_err-rename.result
    (is_err_at c.from_residual-in_err-rename.result p.0 p.1) c.in_ok-write.ensures c.in_ok-sync_if.ensures c.in_err-rename.ensures

pub returns : goal.returns
returns g c =
    moved c.args.is_lasting c.args.aside.now c.args.place.now c.args.bytes.now _ _ _ _ _ c.name_if.result c.in_ok-write.ensures c.in_ok-sync_if.ensures c.in_ok-rename.ensures c.name_if.ensures
