use Rattle.std.proofs.Common.{◌≡◌, ◌++◌, map, take}
use Rattle.tl_text.specs.Text.{base64_text}
use Rattle.tl_command.specs.Lines.{lines_text}
use Rattle.tl_command.proofs.proof_text.push_hashes.Given as goal

-- the hashes so far were appended
abbrev pub invariant-loop-hash : goal.invariant-loop-hash
invariant-loop-hash g l = l.out.items ≡ l.fn.out.items ++ lines_text (map base64_text (take l.hash-index l.hashes))
