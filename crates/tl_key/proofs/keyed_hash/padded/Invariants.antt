use Rattle.std.proofs.Common.{◌≡◌, ◌++◌, map, take, drop}
use Rattle.std.specs.Prelude.{bit_xor}
use Rattle.tl_key.proofs.keyed_hash.padded.Given as goal

-- the bytes so far are combined with the pad
abbrev pub invariant-loop-byte : goal.invariant-loop-byte
invariant-loop-byte l = l.byte-items ≡ map (λ byte. bit_xor byte l.pad) (take l.byte-index l.initial.byte-items) ++ drop l.byte-index l.initial.byte-items
