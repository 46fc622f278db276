use Rattle.std.proofs.Common.{rules, ◌≡◌, ap, sym, ◌∙◌, arith}
use Rattle.std.proofs.lemmas.List.{take_all}
use Rattle.std.proofs.lemmas.Slice.{overwrites}
use Rattle.std.specs.Int.{w32, to_be_bytes}
use Rattle.sha2.specs.Sha256.{digest_bytes}
use Rattle.tl_lanes.specs.Lanes.{lane}
use Rattle.tl_lanes.proofs.Blocks.{word_more}
use Rattle.tl_lanes.proofs.LaneLemmas.{lane-at}
use Rattle.tl_lanes.proofs.messages.finish.Goals as goal

pub written-init : goal.written-init
unfolding digest_bytes
written-init c = search rules

pub written-preserved : goal.written-preserved
written-preserved c = (
  search (rules, overwrites),
  word_more c.written.digest (lane c.args.j c.args.state.now) _ c.written.i _ c.written.invariant.1 (omega arith)
      (c.copy_from_slice.ensures.after ∙ c.to_be_bytes.ensures ∙ ap (to_be_bytes w32) (sym (lane-at c.args.state.now c.args.j c.written.i (omega arith)))),
)

pub returns : goal.returns
returns c =
    let done : c.written.i ≡ 8 = omega arith in
    let words = rw done at c.written.invariant.1 in
    sym (take_all 32 c.written.digest (omega arith)) ∙ words
