use Rattle.std.proofs.Common.{ap, is_ok, arith}
use Rattle.std.proofs.lemmas.Grind.{common_steps}
use Rattle.std.proofs.lemmas.Result.{err_from_is_err_and}
use Rattle.tl_folder.proofs.Beginnings.{is_err_at}
use Rattle.tl_folder.proofs.StreamBeginnings.{cut_unnamed}
use Rattle.tl_folder.proofs.line_stream.cut_lines.Goals as goal

pub returns-in_err-sync_parent : goal.returns-in_err-sync_parent
returns-in_err-sync_parent g c =
    let p = err_from_is_err_and c.from_residual-in_err-sync_parent.result c.from_residual-in_err-sync_parent.ensures.1 in
    cut_unnamed c.args.path.now _ _ _ _ _ _ _ _ c.sync_parent.result c.from_residual-in_err-sync_parent.result
    (is_err_at c.sync_parent.result _ c.in_err-sync_parent.was) (is_err_at c.from_residual-in_err-sync_parent.result p.0 p.1)
    c.in_ok-length.ensures c.cut.ensures (ap is_ok c.in_ok-cut.was) c.sync_all.ensures (ap is_ok c.in_ok-sync_all.was) c.sync_parent.ensures

pub returns : goal.returns
returns g c = grind (arith, common_steps)

pub returns-in_err-sync_all : goal.returns-in_err-sync_all
returns-in_err-sync_all g c = grind (arith, common_steps)
