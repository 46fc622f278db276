use Rattle.std.proofs.Common.{false, refl, sym, ap, ◌∙◌, ◌/◌, ◌%◌, true≢false, arith}
use Rattle.std.specs.Prelude.{IsTrue, ◌↔◌}
use Rattle.tl_tile.specs.TileText.{level_count}
use Rattle.tl_publisher.proofs.Pieces.{piece_within, had_full, had_part, had_none, had_other}
use Rattle.tl_publisher.proofs.lookup.had_piece.Goals as goal
use Rattle.tl_publisher.proofs.lookup.had_piece.Goals.{then-level-gt7-via-then-level-gt7, then-level-gt7-via-else-level-gt7+then-width-eq0, then-level-gt7-via-else-level-gt7+else-width-eq0+then-width-gt256}

-- what can't be there is rightly reported as not there
denied : {P : Type 0} → (P → ⊥) → IsTrue false ↔ P
denied none = ((λ wrong. absurd (true≢false (sym wrong))), (λ has. absurd (none has)))

pub returns-then-level-gt7-clause-had : goal.returns-then-level-gt7-clause-had
returns-then-level-gt7-clause-had c = denied (λ had.
    let one = piece_within c.args.index c.args.width (level_count had.1.1 c.args.level) had.1.4 in
    elim c.then-level-gt7.branch [
      | then-level-gt7-via-then-level-gt7 w ↦ omega (arith, had.0, w.if-level-gt7.true)
      | then-level-gt7-via-else-level-gt7+then-width-eq0 w ↦ omega (arith, one.0, w.if-width-eq0.true)
      | then-level-gt7-via-else-level-gt7+else-width-eq0+then-width-gt256 w ↦ omega (arith, one.1, w.if-width-gt256.true)
    ])

pub returns-then-place-sizes-clause-had : goal.returns-then-place-sizes-clause-had
returns-then-place-sizes-clause-had c =
    denied (had_none c.args.sizes.now c.args.level c.args.index c.args.width c.first_reaching-place.result c.if-place-sizes.true c.first_reaching-place.ensures.before)

pub returns-then-width-eq256-clause-had : goal.returns-then-width-eq256-clause-had
returns-then-width-eq256-clause-had c =
    let less = c.if-place-sizes.false in
    let own = had_full c.args.sizes.now c.args.level c.args.index c.args.width c.first_reaching-place.result (omega (arith, c.if-level-gt7.false)) c.if-width-eq256.true less (c.first_reaching-place.ensures.there less) in
    ((λ _. own), (λ _. refl))

pub returns-then-count-index-clause-had : goal.returns-then-count-index-clause-had
returns-then-count-index-clause-had c =
    let less = c.if-place-sizes.false in
    let other = had_other c.args.sizes.now c.args.level c.args.index c.args.width c.first_reaching-place.result c.requires.rising c.if-width-eq256.false less
    c.first_reaching-place.ensures.before (c.first_reaching-place.ensures.there less) in
    denied (λ had. c.if-count-index.true (ap (λ n. n / 256) c.count_of-count.ensures ∙ (other had).0))

pub returns-then-count-width-clause-had : goal.returns-then-count-width-clause-had
returns-then-count-width-clause-had c =
    let less = c.if-place-sizes.false in
    let other = had_other c.args.sizes.now c.args.level c.args.index c.args.width c.first_reaching-place.result c.requires.rising c.if-width-eq256.false less
    c.first_reaching-place.ensures.before (c.first_reaching-place.ensures.there less) in
    denied (λ had. c.if-count-width.true (ap (λ n. n % 256) c.count_of-count.ensures ∙ (other had).1))

pub returns-clause-had : goal.returns-clause-had
returns-clause-had c =
    let same = c.count_of-count.ensures in
    let own = had_part c.args.sizes.now c.args.level c.args.index c.args.width c.first_reaching-place.result (omega (arith, c.if-level-gt7.false)) (omega (arith, c.if-width-eq0.false)) (omega (arith, c.if-width-gt256.false, c.if-width-eq256.false))
    c.if-place-sizes.false (sym (ap (λ n. n / 256) same) ∙ c.if-count-index.false) (sym (ap (λ n. n % 256) same) ∙ c.if-count-width.false) in
    ((λ _. own), (λ _. refl))
