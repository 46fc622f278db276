use Rattle.std.proofs.Common.{◌≤◌, All, take}
use Rattle.tl_http.proofs.target.is_visible.Given as goal

-- the bytes so far are visible
abbrev pub invariant-loop-byte : goal.invariant-loop-byte
invariant-loop-byte l = All (λ b. (33 ≤ b) × (b ≤ 126)) (take l.byte-index l.text)
