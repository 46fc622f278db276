use Rattle.std.proofs.Common.{◌≡◌, None, Some, arith}
use Rattle.std.proofs.lemmas.Grind.{common_steps}
use Rattle.std.proofs.lemmas.Result.{err_from_is_err_and}
use Rattle.std.specs.Path.{path_parent}
use Rattle.tl_folder.proofs.Beginnings.{is_err_at}
use Rattle.tl_folder.proofs.Makings.{again_written, unmade_aside, then_written}
use Rattle.tl_folder.proofs.staged.write_in_folder.Goals as goal

pub returns-in_default : goal.returns-in_default
returns-in_default g c =
    let none : path_parent c.args.path.now ≡ None = cc (c.in_default.ensures, c.new.ensures) in
    again_written c.args.path.now c.args.bytes.now _ _ _ c.write_shown-in_default.result none c.in-Err-NotThere.ensures c.write_shown-in_default.ensures

pub returns-in_err-make_folders : goal.returns-in_err-make_folders
returns-in_err-make_folders g c =
    let p = err_from_is_err_and c.from_residual-in_err-make_folders.result c.from_residual-in_err-make_folders.ensures.1 in
    let above : path_parent c.args.path.now ≡ Some c.as_str.result.now = cc (c.in-Some.ensures, c.as_str.ensures, c.new.ensures) in
    unmade_aside c.args.path.now c.as_str.result.now c.args.bytes.now _ _ _ c.make_folders.result c.from_residual-in_err-make_folders.result
    (is_err_at c.make_folders.result _ c.in_err-make_folders.was) (is_err_at c.from_residual-in_err-make_folders.result p.0 p.1) above c.in-Err-NotThere.ensures c.make_folders.ensures

pub returns : goal.returns
returns g c =
    let above : path_parent c.args.path.now ≡ Some c.as_str.result.now = cc (c.in-Some.ensures, c.as_str.ensures, c.new.ensures) in
    then_written c.args.path.now c.as_str.result.now c.args.bytes.now _ _ _ _ c.write_shown-2.result above c.in-Err-NotThere.ensures c.in_ok-make_folders.ensures c.write_shown-2.ensures

pub returns-in-Err : goal.returns-in-Err
returns-in-Err g c = grind (arith, common_steps)

pub returns-in-Ok : goal.returns-in-Ok
returns-in-Ok g c = grind (arith, common_steps)

pub returns-in_err-check_plain : goal.returns-in_err-check_plain
returns-in_err-check_plain g c = grind (arith, common_steps)
