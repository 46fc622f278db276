use Rattle.std.proofs.Common.{All, map, take, string_bytes}
use Rattle.tl_text.specs.Text.{IsOneLine}
use Rattle.tl_checkpoint.proofs.writing.are_lines.Given as goal

abbrev pub invariant-loop-text : goal.invariant-loop-text
invariant-loop-text g l = All IsOneLine (map string_bytes (take l.text-index l.texts))
