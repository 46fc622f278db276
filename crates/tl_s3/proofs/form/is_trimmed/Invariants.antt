use Rattle.std.proofs.Common.{◌≡◌, true, drop}
use Rattle.tl_s3.specs.Canonical.{is_trimmed_after}
use Rattle.tl_s3.proofs.form.is_trimmed.Given as goal

abbrev pub invariant-loop-byte : goal.invariant-loop-byte
invariant-loop-byte l =
    is_trimmed_after true l.text ≡ is_trimmed_after l.before (drop l.byte-index l.text)
