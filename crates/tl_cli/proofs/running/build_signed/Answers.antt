use Rattle.std.proofs.Common.{inl, rules}
use Rattle.tl_cli.proofs.FileRuns.{builds_signed}
use Rattle.tl_cli.proofs.running.build_signed.Goals as goal

pub returns : goal.returns
returns g c =
    builds_signed _ _ _ _ _ _ c.run_build_signed.result (inl (c.as_slice-bytes.result.now, c.run_build_signed.ensures))
    c.as_str-origin.ensures.value (search rules)
