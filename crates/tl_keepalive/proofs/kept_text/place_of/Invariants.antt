use Rattle.std.proofs.Common.{◌≡◌, ◌++◌, drop, take}
use Rattle.tl_keepalive.specs.KeepAlive as spec
use Rattle.tl_keepalive.proofs.kept_text.place_of.Given as goal

abbrev pub invariant-loop-at : goal.invariant-loop-at
invariant-loop-at l = spec.without l.text l.bytes ≡ take l.at l.bytes ++ spec.without l.text (drop l.at l.bytes)
