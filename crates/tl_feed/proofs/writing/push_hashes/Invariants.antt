use Rattle.std.proofs.Common.{◌≡◌, ◌++◌, take, string_bytes}
use Rattle.tl_witness.specs.Request.{hash_lines}
use Rattle.tl_feed.proofs.writing.push_hashes.Given as goal

-- the first hashes stand behind the text
abbrev pub invariant-loop-hash : goal.invariant-loop-hash
invariant-loop-hash g l = string_bytes l.out ≡ string_bytes l.fn.out ++ hash_lines (take l.hash-index l.hashes)
