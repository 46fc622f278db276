use Rattle.std.proofs.Common.{◌≡◌, Some, inl, refl}
use Rattle.std.proofs.lemmas.Result.{err_from_is_err_and}
use Rattle.std.specs.Path.{path_parent}
use Rattle.tl_folder.specs.Settling.{asks_none}
use Rattle.tl_folder.proofs.Beginnings.{is_err_at}
use Rattle.tl_folder.proofs.Makings.{one_up, one_stops, up_stops, above_asked}
use Rattle.tl_folder.proofs.making.+make_folders.Goals as goal

pub returns-in_err-ask_for : goal.returns-in_err-ask_for
returns-in_err-ask_for g t c =
    let p = err_from_is_err_and c.from_residual.result c.from_residual.ensures.1 in
    one_stops c.args.are_named c.args.path.now c.args.calls.now c.args.calls.now c.ask_for.new.calls c.ask_for.result c.from_residual.result (is_err_at c.ask_for.result _ c.in_err-ask_for.was) (is_err_at c.from_residual.result p.0 p.1) asks_none c.ask_for.ensures

pub returns-then-branch : goal.returns-then-branch
returns-then-branch g t c = (_, asks_none, c.in_ok-ask_for.ensures)

pub returns-in_default : goal.returns-in_default
returns-in_default g t c = (c.ask_for.new.calls, one_up asks_none c.in_ok-ask_for.ensures, inl (refl {a = c.ask_for.new.calls}))

pub returns-in_err-make_folders : goal.returns-in_err-make_folders
returns-in_err-make_folders g t c =
    let p = err_from_is_err_and c.from_residual-in_err-make_folders.result c.from_residual-in_err-make_folders.ensures.1 in
    let above : path_parent c.args.path.now ≡ Some c.as_str.result.now = cc (c.in-Some.ensures, c.as_str.ensures, c.new.ensures) in
    up_stops c.args.are_named c.args.path.now c.as_str.result.now c.args.calls.now c.ask_for.new.calls c.make_folders.new.calls c.make_folders.result c.from_residual-in_err-make_folders.result
    (is_err_at c.make_folders.result _ c.in_err-make_folders.was) (is_err_at c.from_residual-in_err-make_folders.result p.0 p.1) above (one_up asks_none c.in_ok-ask_for.ensures) c.make_folders.ensures

pub returns-in_err-ask_for-2 : goal.returns-in_err-ask_for-2
returns-in_err-ask_for-2 g t c =
    let p = err_from_is_err_and c.from_residual-in_err-ask_for-2.result c.from_residual-in_err-ask_for-2.ensures.1 in
    let above : path_parent c.args.path.now ≡ Some c.as_str.result.now = cc (c.in-Some.ensures, c.as_str.ensures, c.new.ensures) in
    one_stops c.args.are_named c.args.path.now c.args.calls.now c.make_folders.new.calls c.ask_for-2.new.calls c.ask_for-2.result c.from_residual-in_err-ask_for-2.result
    (is_err_at c.ask_for-2.result _ c.in_err-ask_for-2.was) (is_err_at c.from_residual-in_err-ask_for-2.result p.0 p.1)
    (above_asked c.args.are_named c.args.path.now c.as_str.result.now c.args.calls.now c.ask_for.new.calls c.make_folders.new.calls above (one_up asks_none c.in_ok-ask_for.ensures) c.in_ok-make_folders.ensures) c.ask_for-2.ensures

pub returns-then-branch-2 : goal.returns-then-branch-2
returns-then-branch-2 g t c =
    let above : path_parent c.args.path.now ≡ Some c.as_str.result.now = cc (c.in-Some.ensures, c.as_str.ensures, c.new.ensures) in
    (c.make_folders.new.calls, above_asked c.args.are_named c.args.path.now c.as_str.result.now c.args.calls.now c.ask_for.new.calls c.make_folders.new.calls above (one_up asks_none c.in_ok-ask_for.ensures) c.in_ok-make_folders.ensures, c.in_ok-ask_for-2.ensures)

pub returns : goal.returns
returns g t c =
    let above : path_parent c.args.path.now ≡ Some c.as_str.result.now = cc (c.in-Some.ensures, c.as_str.ensures, c.new.ensures) in
    (c.ask_for-2.new.calls, one_up (above_asked c.args.are_named c.args.path.now c.as_str.result.now c.args.calls.now c.ask_for.new.calls c.make_folders.new.calls above (one_up asks_none c.in_ok-ask_for.ensures) c.in_ok-make_folders.ensures) c.in_ok-ask_for-2.ensures, inl (refl {a = c.ask_for-2.new.calls}))
