use Rattle.std.proofs.Common.{◌≡◌, ◌++◌, All, string_bytes, take}
use Rattle.tl_hash.specs.Bytes.{IsHash}
use Rattle.tl_offline.specs.ProofText.{hash_lines}
use Rattle.tl_offline.proofs.writing.push_hashes.Given as goal

abbrev pub invariant-loop-hash : goal.invariant-loop-hash
invariant-loop-hash g l = (string_bytes l.out ≡ string_bytes l.fn.out ++ hash_lines (take l.hash-index l.hashes)) × All IsHash (take l.hash-index l.hashes)
