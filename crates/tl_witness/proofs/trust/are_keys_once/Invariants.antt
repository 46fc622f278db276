use Rattle.std.proofs.Common.{All, map, take}
use Rattle.tl_witness.specs.Open.{HasEachKeyOnce}
use Rattle.tl_witness.proofs.trust.are_keys_once.Given as goal

-- the trusts so far have each key once
abbrev pub invariant-loop-i : goal.invariant-loop-i
invariant-loop-i g l = All HasEachKeyOnce (map g.N.HasKeys.keys (take l.i l.trusts))
