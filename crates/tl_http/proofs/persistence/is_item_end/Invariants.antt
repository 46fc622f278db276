use Rattle.std.proofs.Common.{◌≡◌, drop}
use Rattle.tl_http.specs.Persistence.{is_item_end}
use Rattle.tl_http.proofs.persistence.is_item_end.Given as goal

-- the bytes so far are blanks
abbrev pub invariant-loop-byte : goal.invariant-loop-byte
invariant-loop-byte l = is_item_end l.text ≡ is_item_end (drop l.byte-index l.text)
