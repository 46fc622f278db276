use Rattle.std.proofs.Common.{string_bytes, take}
use Rattle.tl_publisher.specs.Inner.Attaching.{HasBehind}
use Rattle.tl_publisher.proofs.attaching.with_lines.Given as goal

-- after the note come the lines that were found before this one
abbrev pub invariant-loop-cosigned : goal.invariant-loop-cosigned
invariant-loop-cosigned l = HasBehind (string_bytes l.note) l.lines (take l.cosigned-index l.found) (string_bytes l.whole)
