use Rattle.std.proofs.Common.{◌≡◌, false, drop}
use Rattle.tl_http.specs.Message.{is_value_after}
use Rattle.tl_http.proofs.sendable.is_value.Given as goal

-- the bytes so far may go before those that are left
abbrev pub invariant-loop-byte : goal.invariant-loop-byte
invariant-loop-byte l = is_value_after false l.text ≡ is_value_after l.visible (drop l.byte-index l.text)
