use Rattle.std.proofs.Common.{◌≡◌, take, vec_items}
use Rattle.tl_policy.specs.Cosigned.{cosigners}
use Rattle.tl_policy.proofs.quorum.set_of.Given as goal

-- of the times so far
abbrev pub invariant-loop-time : goal.invariant-loop-time
invariant-loop-time g l = vec_items l.set ≡ cosigners (take l.time-index l.times)
