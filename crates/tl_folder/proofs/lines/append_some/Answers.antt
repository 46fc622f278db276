use Rattle.std.proofs.Common.{arith}
use Rattle.std.proofs.lemmas.Grind.{common_steps}
use Rattle.std.proofs.lemmas.Result.{err_from_is_err_and}
use Rattle.tl_folder.proofs.Beginnings.{is_err_at, none_appended, append_failed}
use Rattle.tl_folder.proofs.lines.append_some.Goals as goal

pub returns-in_err-check_at-clause-calls : goal.returns-in_err-check_at-clause-calls
returns-in_err-check_at-clause-calls g c =
    let p = err_from_is_err_and c.from_residual.result c.from_residual.ensures.1 in
    none_appended c.args.path.now c.args.bytes.now _ c.from_residual.result (is_err_at c.from_residual.result p.0 p.1)

pub returns-in_err-count-clause-calls : goal.returns-in_err-count-clause-calls
returns-in_err-count-clause-calls g c =
    let p = err_from_is_err_and c.from_residual-in_err-count.result c.from_residual-in_err-count.ensures.1 in
    append_failed c.args.path.now c.args.bytes.now _ _ c.from_residual-in_err-count.result (is_err_at c.from_residual-in_err-count.result p.0 p.1) c.in_err-count.ensures.calls

pub returns-clause-calls : goal.returns-clause-calls
returns-clause-calls g c = grind (arith, common_steps)

pub returns-clause-count : goal.returns-clause-count
returns-clause-count g c = grind (arith, common_steps)

pub returns-in_err-count-clause-count : goal.returns-in_err-count-clause-count
returns-in_err-count-clause-count g c = grind (arith, common_steps)

pub returns-in_err-sync_data-clause-calls : goal.returns-in_err-sync_data-clause-calls
returns-in_err-sync_data-clause-calls g c = grind (arith, common_steps)

pub returns-in_err-sync_data-clause-count : goal.returns-in_err-sync_data-clause-count
returns-in_err-sync_data-clause-count g c = grind (arith, common_steps)
