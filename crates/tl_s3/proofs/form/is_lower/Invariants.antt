use Rattle.std.proofs.Common.{◌≡◌, drop}
use Rattle.tl_s3.specs.Canonical.{is_lower}
use Rattle.tl_s3.proofs.form.is_lower.Given as goal

abbrev pub invariant-loop-byte : goal.invariant-loop-byte
invariant-loop-byte l = is_lower l.text ≡ is_lower (drop l.byte-index l.text)
