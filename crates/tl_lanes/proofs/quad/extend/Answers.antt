use Rattle.std.proofs.Common.{◌≡◌, ◌%◌, arith, refl}
use Rattle.tl_lanes.proofs.LaneLemmas.{window_word_column}
use Rattle.tl_lanes.proofs.quad.extend.Goals as goal

pub returns : goal.returns
returns c =
    let turned : c.args.place % 16 ≡ c.args.place = omega arith in
    record {
      value = λ j h.
          rw (
            window_word_column c.args.ring.now c.args.place j,
            c.add-word.ensures j h,
            c.add.ensures j h,
            c.lower_sigma0.ensures j h,
            c.add-recent.ensures j h,
            c.lower_sigma1.ensures j h,
            turned,
          ) refl;
      ring = refl;
    }
