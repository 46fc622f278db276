use Rattle.std.proofs.Common.{arith}
use Rattle.std.proofs.lemmas.Grind.{common_steps}
use Rattle.std.proofs.lemmas.Result.{err_from_is_err_and}
use Rattle.tl_folder.proofs.Addings.{unfilled, put_there}
use Rattle.tl_folder.proofs.adding.add_file.Goals as goal

pub returns-in_err-fill_or_remove : goal.returns-in_err-fill_or_remove
returns-in_err-fill_or_remove g c =
    let p = err_from_is_err_and c.from_residual-in_err-fill_or_remove.result c.from_residual-in_err-fill_or_remove.ensures.1 in
    rw (p.1, p.2) (unfilled c.args.aside.now c.args.place.now c.args.bytes.now _ _ _ _ c.in_ok-make_above.ensures c.in_err-fill_or_remove.ensures)

pub returns : goal.returns
returns g c = put_there c.args.aside.now c.args.place.now c.args.bytes.now _ _ _ _ c.rename.result c.in_ok-make_above.ensures c.in_ok-fill_or_remove.ensures c.rename.ensures

pub returns-in_err-make_above : goal.returns-in_err-make_above
returns-in_err-make_above g c = grind (arith, common_steps)
