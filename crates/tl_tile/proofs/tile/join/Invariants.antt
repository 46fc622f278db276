use Rattle.std.proofs.Common.{◌≡◌, take}
use Rattle.std.specs.List.{flat_map}
use Rattle.tl_tile.proofs.tile.join.Given as goal

abbrev pub invariant-loop-hash : goal.invariant-loop-hash
invariant-loop-hash g l = l.bytes.items ≡ flat_map (λ hash. hash) (take l.hash-index l.hashes)
