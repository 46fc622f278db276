use Rattle.std.proofs.Common.{◌≡◌, All, map, take, vec_items}
use Rattle.tl_hash.specs.Bytes.{IsHash}
use Rattle.tl_text.specs.Text.{base64_text}
use Rattle.tl_command.proofs.lines.hashes_of.Given as goal

-- the lines so far are those of the hashes
abbrev pub invariant-loop-line : goal.invariant-loop-line
invariant-loop-line g l = record {
  lawful : All IsHash l.hashes.items;
  spelled : map vec_items (take l.line-index l.lines) ≡ map base64_text l.hashes.items;
}
