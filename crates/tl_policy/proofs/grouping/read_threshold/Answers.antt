use Rattle.std.proofs.Common.{◌≡◌, arith}
use Rattle.tl_policy.proofs.ThresholdLaws.{number_is_one}
use Rattle.tl_policy.proofs.grouping.read_threshold.Goals as goal
use Rattle.tl_policy.proofs.grouping.read_threshold.Goals.{then-threshold-eq0-via-then-threshold-eq0, then-threshold-eq0-via-else-threshold-eq0+then-threshold-members}

pub returns-in_default : goal.returns-in_default
returns-in_default c = λ threshold is. (rw c.in_default.is at c.number_of.ensures) threshold (omega (arith, is.fits, c.requires)) is.given

pub returns-then-threshold-eq0 : goal.returns-then-threshold-eq0
returns-then-threshold-eq0 c = λ threshold is.
    let same : threshold ≡ c.in-Some.threshold = number_is_one c.args.word.now c.args.members threshold c.in-Some.threshold (omega (arith, is.fits, c.requires)) c.in-Some.ensures.0 is.given c.in-Some.ensures.1 in
    elim c.then-threshold-eq0.branch [
      | then-threshold-eq0-via-then-threshold-eq0 w ↦ omega (arith, same, is.some)
      | then-threshold-eq0-via-else-threshold-eq0+then-threshold-members w ↦ omega (arith, same, is.fits)
    ]
