use Rattle.tl_prove.proofs.VerifyRuns.{ran}
use Rattle.tl_prove.proofs.verify_command.run_verify.Goals as goal

pub returns : goal.returns
returns g c =
    ran c.args.options.now c.as_str-2.result.now c.in_ok-entry.entry.items c.as_slice.result.now _ _ c.verify_by.result c.as_slice.ensures.value c.in_ok-entry.ensures.given c.verify_by.ensures
