use Rattle.std.proofs.Common.{◌∙◌, ap, arith, length, map, string_bytes}
use Rattle.std.proofs.lemmas.Grind.{common_steps}
use Rattle.std.specs.Prelude.{None}
use Rattle.std.proofs.lemmas.List.{length-map}
use Rattle.tl_witness.specs.ChainLine.{chain_text}
use Rattle.tl_logs.specs.State.{whole_line}
use Rattle.tl_logs.specs.ReadState.{head_shown, heads_shown}
use Rattle.tl_logs.specs.Inner.Counting.{counts_of}
use Rattle.tl_logs.proofs.CompactLaws.{compacted, lines_refused, refuses_by}
use Rattle.tl_logs.proofs.state.compact_state.Goals as goal

pub returns-in-Err : goal.returns-in-Err
returns-in-Err g c = refuses_by g.T.TreeHash.digest_of None (counts_of c.all.result) _ c.in-Err.fault c.all.ensures c.in-Err.ensures.refused

pub returns-in-Ok-whole_lines : goal.returns-in-Ok-whole_lines
returns-in-Ok-whole_lines g c =
    compacted g.T.TreeHash.digest_of (counts_of c.all.result) _ (heads_shown c.in-Ok.heads.items) (string_bytes c.in-Ok-whole_lines.lines) c.all.ensures c.in-Ok.ensures.heads
    (c.in-Ok-whole_lines.ensures.text ∙ ap (λ hs. chain_text (map whole_line (heads_shown hs))) c.as_slice.ensures.value)

pub returns : goal.returns
returns g c =
    lines_refused g.T.TreeHash.digest_of (counts_of c.all.result) _ (heads_shown c.in-Ok.heads.items) c.all.ensures c.in-Ok.ensures.heads
    (omega (arith, c.in-Err-whole_lines.ensures.memory, ap length c.as_slice.ensures.value, length-map c.in-Ok.heads.items (λ o. head_shown o)))

pub whole_lines-requires : goal.whole_lines-requires
whole_lines-requires g c = grind (arith, common_steps)
