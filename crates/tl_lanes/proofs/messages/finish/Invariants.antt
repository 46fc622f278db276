use Rattle.std.proofs.Common.{◌≡◌, ◌*◌, length, take}
use Rattle.sha2.specs.Sha256.{digest_bytes}
use Rattle.tl_lanes.specs.Lanes.{lane}
use Rattle.tl_lanes.proofs.messages.finish.Given as goal

abbrev pub invariant-written : goal.invariant-written
invariant-written l = (length l.digest ≡ 32) × (take (4 * l.i) l.digest ≡ digest_bytes (lane l.j l.state) l.i)
