use Rattle.std.proofs.Common.{◌≡◌, take, string_bytes}
use Rattle.tl_serve.specs.Inner.Saving.{link_lines}
use Rattle.tl_serve.proofs.written.text_of.Given as goal

abbrev pub invariant-loop-line : goal.invariant-loop-line
invariant-loop-line l = string_bytes l.text ≡ link_lines (take l.line-index l.lines)
