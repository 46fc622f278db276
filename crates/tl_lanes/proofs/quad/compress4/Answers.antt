use Rattle.std.proofs.Common.{◌≡◌, ℕ, ◌<◌, List, length, slice_index, refl, ap, ◌*◌, ◌∙◌, arith}
use Rattle.std.proofs.lemmas.List.{length-map}
use Rattle.sha2.specs.Sha256.{IsWindow, add_state, compress, rounds, schedule, word_at}
use Rattle.tl_lanes.specs.Inner.Columns.{column}
use Rattle.tl_lanes.specs.Lanes.{lane, lane_at}
use Rattle.tl_lanes.proofs.LaneLemmas.{column_at}
use Rattle.tl_lanes.proofs.Ring.{as_many, ring_of_block}
use Rattle.tl_lanes.proofs.quad.compress4.Goals as goal

-- a lane that holds a block's words is a ring
filled : (words : List (List ℕ)) (b : List ℕ) (j : ℕ) → length words ≡ 16 → ((k : ℕ) → k < 16 → lane_at words k j ≡ word_at b (4 * k))
    → IsWindow (column j words) (schedule b 48) 16
filled words b j len is =
    ring_of_block b (column j words) (length-map words (λ (v : List ℕ). slice_index v j) ∙ len) (λ k lt. column_at words k j ∙ is k lt)

pub turns-init : goal.turns-init
unfolding rounds
turns-init c = λ j lt b is.
    let h = lane j c.args.state.now in
    let len : length c.args.words ≡ 16 = omega arith in
    let ring = filled c.args.words b j len is in
    let four = c.four_early-vars.ensures j lt b h ring refl in
    let eight = c.four_early-vars-2.ensures j lt b h ring four in
    let twelve = c.four_early-vars-3.ensures j lt b h ring eight in
    (ring, c.four_early-vars-4.ensures j lt b h ring twelve)

pub turns-preserved : goal.turns-preserved
turns-preserved c = λ j lt b is.
    let h = lane j c.args.state.now in
    let four = c.four_late-vars.ensures j lt b h (as_many b h _ _ _ _ (omega arith) (c.turns.invariant j lt b is)) in
    let eight = c.four_late-vars-in-turns.ensures j lt b h four in
    let twelve = c.four_late-vars-in-turns-2.ensures j lt b h eight in
    let sixteen = c.four_late-vars-in-turns-3.ensures j lt b h twelve in
    as_many b h _ _ _ _ (omega arith) sixteen

pub returns : goal.returns
unfolding compress
returns c = λ j lt b is.
    let all : 16 * c.turns.turn ≡ 64 = omega (arith, c.turns.auto.turn-end (omega arith)) in
    let after = c.turns.invariant j lt b is in
    rw (
      c.add.ensures j lt,
      c.add-2.ensures j lt,
      c.add-3.ensures j lt,
      c.add-4.ensures j lt,
      c.add-5.ensures j lt,
      c.add-6.ensures j lt,
      c.add-7.ensures j lt,
      c.add-8.ensures j lt,
    )
    (ap (add_state (lane j c.args.state.now)) (rw all at after.1))
