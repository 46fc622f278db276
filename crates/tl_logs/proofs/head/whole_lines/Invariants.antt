use Rattle.std.proofs.Common.{◌≡◌, map, take, string_bytes}
use Rattle.tl_witness.specs.ChainLine.{chain_text}
use Rattle.tl_logs.specs.State.{whole_line}
use Rattle.tl_logs.specs.ReadState.{head_shown}
use Rattle.tl_logs.proofs.head.whole_lines.Given as goal

-- the text of the heads so far
abbrev pub invariant-loop-head : goal.invariant-loop-head
invariant-loop-head g l = string_bytes l.text ≡ chain_text (map (λ o. whole_line (head_shown o)) (take l.head-index l.heads))
