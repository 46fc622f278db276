use Rattle.std.proofs.Common.{◌≡◌, ◌≢◌, ℕ, ◌+◌, ◌*◌, ◌/◌, ◌<◌, ◌≤◌, List, ◌∷◌, length, ◌∙◌, inl, inr, arith}
use Rattle.std.proofs.lemmas.Bool.{cases_lt}
use Rattle.sha2.specs.Sha256.{hash_after, initial_hash_256, padded_message, sha256}
use Rattle.tl_lanes.proofs.Blocks.{all_blocks, block_more}
use Rattle.tl_lanes.proofs.messages.four_digests.Invariants.{HasTaken, IsKept}
use Rattle.tl_lanes.proofs.messages.four_digests.Goals as goal

pub blocks-2-init : goal.blocks-2-init
unfolding hash_after
blocks-2-init c = (
  λ _. c.start-state.ensures 0 (omega arith),
  λ _. c.start-state.ensures 1 (omega arith),
  λ _. c.start-state.ensures 2 (omega arith),
  λ _. c.start-state.ensures 3 (omega arith),
  λ lt. absurd (omega (arith, lt)),
  λ lt. absurd (omega (arith, lt)),
  λ lt. absurd (omega (arith, lt)),
  λ lt. absurd (omega (arith, lt)),
)

pub blocks-2-preserved : goal.blocks-2-preserved
blocks-2-preserved c =
    let old = c.blocks-2.invariant in
    let t = c.blocks-2.t in
    let last_a = (length c.args.a.now + 9) / 64 in
    let taken_a : HasTaken c.take_in.new.state 0 (c.args.tag ∷ c.args.a.now) last_a (t + 1) =
    λ le. block_more _ _ _ _ _ _ (c.take_in.ensures 0 (omega arith)) (old.0 (omega (arith, le))) (c.block_or_any.ensures (omega (arith, le))) in
    let kept_a : IsKept c.keep.new.digest (c.args.tag ∷ c.args.a.now) last_a (t + 1) =
    λ lt. elim (cases_lt last_a t) [
      | inl earlier ↦ c.keep.ensures.others (omega (arith, earlier)) ∙ old.4 earlier
      | inr same ↦ c.keep.ensures.kept (omega (arith, same, lt)) ∙ all_blocks _ _ (t + 1) (taken_a (omega (arith, same, lt))) (omega (arith, same, lt))
    ] in
    let last_b = (length c.args.b.now + 9) / 64 in
    let taken_b : HasTaken c.take_in.new.state 1 (c.args.tag ∷ c.args.b.now) last_b (t + 1) =
    λ le. block_more _ _ _ _ _ _ (c.take_in.ensures 1 (omega arith)) (old.1 (omega (arith, le))) (c.block_or_any-in-blocks-2.ensures (omega (arith, le))) in
    let kept_b : IsKept c.keep-in-blocks-2.new.digest (c.args.tag ∷ c.args.b.now) last_b (t + 1) =
    λ lt. elim (cases_lt last_b t) [
      | inl earlier ↦ c.keep-in-blocks-2.ensures.others (omega (arith, earlier)) ∙ old.5 earlier
      | inr same ↦ c.keep-in-blocks-2.ensures.kept (omega (arith, same, lt)) ∙ all_blocks _ _ (t + 1) (taken_b (omega (arith, same, lt))) (omega (arith, same, lt))
    ] in
    let last_c = (length c.args.c.now + 9) / 64 in
    let taken_c : HasTaken c.take_in.new.state 2 (c.args.tag ∷ c.args.c.now) last_c (t + 1) =
    λ le. block_more _ _ _ _ _ _ (c.take_in.ensures 2 (omega arith)) (old.2 (omega (arith, le))) (c.block_or_any-in-blocks-2-2.ensures (omega (arith, le))) in
    let kept_c : IsKept c.keep-in-blocks-2-2.new.digest (c.args.tag ∷ c.args.c.now) last_c (t + 1) =
    λ lt. elim (cases_lt last_c t) [
      | inl earlier ↦ c.keep-in-blocks-2-2.ensures.others (omega (arith, earlier)) ∙ old.6 earlier
      | inr same ↦ c.keep-in-blocks-2-2.ensures.kept (omega (arith, same, lt)) ∙ all_blocks _ _ (t + 1) (taken_c (omega (arith, same, lt))) (omega (arith, same, lt))
    ] in
    let last_d = (length c.args.d.now + 9) / 64 in
    let taken_d : HasTaken c.take_in.new.state 3 (c.args.tag ∷ c.args.d.now) last_d (t + 1) =
    λ le. block_more _ _ _ _ _ _ (c.take_in.ensures 3 (omega arith)) (old.3 (omega (arith, le))) (c.block_or_any-in-blocks-2-3.ensures (omega (arith, le))) in
    let kept_d : IsKept c.keep-in-blocks-2-3.new.digest (c.args.tag ∷ c.args.d.now) last_d (t + 1) =
    λ lt. elim (cases_lt last_d t) [
      | inl earlier ↦ c.keep-in-blocks-2-3.ensures.others (omega (arith, earlier)) ∙ old.7 earlier
      | inr same ↦ c.keep-in-blocks-2-3.ensures.kept (omega (arith, same, lt)) ∙ all_blocks _ _ (t + 1) (taken_d (omega (arith, same, lt))) (omega (arith, same, lt))
    ] in
    (taken_a, taken_b, taken_c, taken_d, kept_a, kept_b, kept_c, kept_d)
