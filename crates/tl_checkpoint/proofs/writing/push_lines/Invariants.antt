use Rattle.std.proofs.Common.{◌≡◌, ◌++◌, map, take, string_bytes}
use Rattle.std.specs.List.{flat_map}
use Rattle.tl_text.specs.Text.{line}
use Rattle.tl_checkpoint.proofs.writing.push_lines.Given as goal

abbrev pub invariant-loop-text : goal.invariant-loop-text
invariant-loop-text g l = string_bytes l.out ≡ string_bytes l.fn.out ++ flat_map line (map string_bytes (take l.text-index l.texts))
