use Rattle.std.proofs.Common.{◌≡◌, ◌+◌, ◌%◌, take}
use Rattle.std.specs.Prelude.{sum}
use Rattle.tl_testing.proofs.sum_digest.add_bytes.Given as goal

abbrev pub invariant-loop-byte : goal.invariant-loop-byte
invariant-loop-byte l = l.total ≡ (l.start + sum (take l.byte-index l.bytes)) % 256
