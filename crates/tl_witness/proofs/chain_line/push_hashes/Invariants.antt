use Rattle.std.proofs.Common.{◌≡◌, ◌++◌, take, string_bytes}
use Rattle.tl_witness.specs.ChainLine.{spaced_hashes}
use Rattle.tl_witness.proofs.chain_line.push_hashes.Given as goal

abbrev pub invariant-loop-hash : goal.invariant-loop-hash
invariant-loop-hash g l = string_bytes l.out ≡ string_bytes l.fn.out ++ spaced_hashes (take l.hash-index l.hashes)
