use Rattle.std.proofs.Common.{◌≡◌, ap, ◌∙◌, is_ok, arith}
use Rattle.std.proofs.lemmas.Grind.{common_steps}
use Rattle.std.proofs.lemmas.Result.{err_from_is_err_and}
use Rattle.tl_folder.specs.Step.{Path, Step}
use Rattle.tl_folder.specs.Step as step
use Rattle.tl_folder.specs.Settling.{placing}
use Rattle.tl_folder.specs.Inner.Staged.{move_of}
use Rattle.tl_folder.proofs.Beginnings.{is_err_at, stops, goes_on}
use Rattle.tl_folder.proofs.staged.place_staged.Goals as goal

renames : (a b from to : Path) → a ≡ from → b ≡ to → step.Rename a b ≡ step.Rename from to
renames a b from to first second = ap (λ (p : Path). step.Rename p b) first ∙ ap (λ (p : Path). step.Rename from p) second

pub returns-in_err-rename : goal.returns-in_err-rename
returns-in_err-rename g c =
    let p = err_from_is_err_and c.from_residual.result c.from_residual.ensures.1 in
    stops (λ file. placing (move_of file)) c.args.staged.now c.loop-file.file-index c.file-item.result _ _ _ _ _ c.from_residual.result (is_err_at c.from_residual.result p.0 p.1)
    c.loop-file-test.true c.file-item.is c.loop-file.invariant c.rename.ensures (renames _ _ _ _ c.as_str.ensures.value c.as_str-in-loop-file.ensures.value) (ap is_ok c.in_err-rename.was)

pub loop-file-preserved : goal.loop-file-preserved
loop-file-preserved g c =
    goes_on (λ file. placing (move_of file)) c.args.staged.now c.loop-file.file-index c.file-item.result _ _ _ _ _
    c.loop-file-test.true c.file-item.is c.loop-file.invariant c.rename.ensures (renames _ _ _ _ c.as_str.ensures.value c.as_str-in-loop-file.ensures.value) (ap is_ok c.in_ok-rename.was)

pub returns : goal.returns
returns g c = grind (arith, common_steps)
