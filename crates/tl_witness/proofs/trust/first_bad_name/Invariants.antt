use Rattle.std.proofs.Common.{All, map, take}
use Rattle.tl_note.specs.Key.{IsKeyName}
use Rattle.tl_witness.proofs.trust.first_bad_name.Given as goal

-- the cosigners so far have names of keys
abbrev pub invariant-loop-i : goal.invariant-loop-i
invariant-loop-i g l = All IsKeyName (map g.N.HasKeys.cosigner_name (take l.i l.trusts))
