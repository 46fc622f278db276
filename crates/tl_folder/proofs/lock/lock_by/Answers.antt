use Rattle.std.proofs.Common.{inl, refl, true, arith}
use Rattle.std.proofs.lemmas.Grind.{common_steps}
use Rattle.std.proofs.lemmas.Result.{err_from_is_err_and}
use Rattle.tl_folder.proofs.Beginnings.{is_err_at}
use Rattle.tl_folder.proofs.Makings.{one_up, asked_stops}
use Rattle.tl_folder.proofs.lock.lock_by.Goals as goal

pub returns-in_err-folder-clause-calls : goal.returns-in_err-folder-clause-calls
returns-in_err-folder-clause-calls g c =
    let p = err_from_is_err_and c.from_residual-in_err-folder.result c.from_residual-in_err-folder.ensures.1 in
    asked_stops true c.args.path.now _ _ c.from_residual-in_err-folder.result (is_err_at c.from_residual-in_err-folder.result p.0 p.1) c.in_ok-make_folders.ensures

pub returns-in_err-lock-clause-calls : goal.returns-in_err-lock-clause-calls
returns-in_err-lock-clause-calls g c =
    let p = err_from_is_err_and c.from_residual-in_err-lock.result c.from_residual-in_err-lock.ensures.1 in
    asked_stops true c.args.path.now _ _ c.from_residual-in_err-lock.result (is_err_at c.from_residual-in_err-lock.result p.0 p.1) c.in_ok-make_folders.ensures

pub returns-then-not-is_told-clause-calls : goal.returns-then-not-is_told-clause-calls
returns-then-not-is_told-clause-calls g c = (_, one_up c.in_ok-make_folders.ensures.1 c.in_ok-make_folders.ensures.2, inl refl)

pub returns-clause-place : goal.returns-clause-place
returns-clause-place g c = grind (arith, common_steps)

pub returns-in_err-folder-clause-place : goal.returns-in_err-folder-clause-place
returns-in_err-folder-clause-place g c = grind (arith, common_steps)

pub returns-in_err-lock-clause-place : goal.returns-in_err-lock-clause-place
returns-in_err-lock-clause-place g c = grind (arith, common_steps)

pub returns-then-not-is_told-clause-place : goal.returns-then-not-is_told-clause-place
returns-then-not-is_told-clause-place g c = grind (arith, common_steps)
