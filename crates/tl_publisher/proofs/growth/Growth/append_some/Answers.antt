use Rattle.std.proofs.Common.{◌≡◌, ◌<◌, ◌≤◌, ◌++◌, ◌∷◌, ◌∙◌, [], ℕ, List, ap, get_or, length, map, sym, subst, take, vec_items, arith}
use Rattle.std.specs.declared.vec.Vec.{Vec}
use Rattle.sha2.specs.Sha256.{sha256}
use Rattle.tl_tile.specs.Bundle.{IsShortEntry}
use Rattle.tl_publisher.specs.Grown.{IsGrown}
use Rattle.tl_publisher.proofs.Resumptions.{entry_short}
use Rattle.tl_publisher.proofs.growth.Growth.append_some.Goals as goal

-- the first entry, and the first four
one_front : {A : Type 0} (entries : List (Vec ℕ A)) (v : Vec ℕ A) (a : List ℕ) → 0 < length entries → v ≡ get_or entries 0 v → a ≡ vec_items v → a ∷ [] ≡ map vec_items (take 1 entries)
one_front [] v a some at is = absurd (omega (arith, some))
one_front (x ∷ entries) v a some at is = ap (λ t. t ∷ []) (is ∙ ap vec_items at)

four_front : {A : Type 0} (entries : List (Vec ℕ A)) (v w x y : Vec ℕ A) (a b d e : List ℕ) → 4 ≤ length entries
    → v ≡ get_or entries 0 v → w ≡ get_or entries 1 w → x ≡ get_or entries 2 x → y ≡ get_or entries 3 y
    → a ≡ vec_items v → b ≡ vec_items w → d ≡ vec_items x → e ≡ vec_items y → a ∷ b ∷ d ∷ e ∷ [] ≡ map vec_items (take 4 entries)
four_front [] v w x y a b d e many _ _ _ _ _ _ _ _ = absurd (omega (arith, many))
four_front (k ∷ []) v w x y a b d e many _ _ _ _ _ _ _ _ = absurd (omega (arith, many))
four_front (k ∷ l ∷ []) v w x y a b d e many _ _ _ _ _ _ _ _ = absurd (omega (arith, many))
four_front (k ∷ l ∷ m ∷ []) v w x y a b d e many _ _ _ _ _ _ _ _ = absurd (omega (arith, many))
four_front (k ∷ l ∷ m ∷ n ∷ entries) v w x y a b d e many v_at w_at x_at y_at a_is b_is d_is e_is =
    let first = a_is ∙ ap vec_items v_at in
    let second = b_is ∙ ap vec_items w_at in
    let third = d_is ∙ ap vec_items x_at in
    let fourth = e_is ∙ ap vec_items y_at in
    λ i. first i ∷ second i ∷ third i ∷ fourth i ∷ []

pub returns-in-len4-up-clause-grown : goal.returns-in-len4-up-clause-grown
returns-in-len4-up-clause-grown g c start before is =
    subst (λ es. IsGrown sha256 start (before ++ es) c.append_four.new.self)
    (four_front c.args.entries.now c.first-item.result c.second-item.result c.third-item.result c.fourth-item.result c.deref.result.now c.deref-in-len4-up.result.now c.deref-in-len4-up-2.result.now c.deref-in-len4-up-3.result.now
    (omega (arith, c.in-len4-up.len_at_least)) c.first-item.is c.second-item.is c.third-item.is c.fourth-item.is c.deref.ensures.value c.deref-in-len4-up.ensures.value c.deref-in-len4-up-2.ensures.value c.deref-in-len4-up-3.ensures.value)
    (c.in_ok-append_four.ensures.grown start before is)

pub returns-clause-grown : goal.returns-clause-grown
returns-clause-grown g c start before is =
    subst (λ es. IsGrown sha256 start (before ++ es) c.append.new.self)
    (one_front c.args.entries.now c.index-entries-0.result c.deref-2.result.now c.requires.some c.index-entries-0.is c.deref-2.ensures.value)
    (c.in_ok-append.ensures.grown start before is)

pub append_four-requires-clause-short : goal.append_four-requires-clause-short
append_four-requires-clause-short g c =
    let entries = c.args.entries.now in
    let short = c.requires.short in
    let many = c.in-len4-up.len_at_least in (
      subst IsShortEntry (sym c.deref.ensures.value) (entry_short entries 0 c.first-item.result (omega (arith, many)) c.first-item.is short),
      subst IsShortEntry (sym c.deref-in-len4-up.ensures.value) (entry_short entries 1 c.second-item.result (omega (arith, many)) c.second-item.is short),
      subst IsShortEntry (sym c.deref-in-len4-up-2.ensures.value) (entry_short entries 2 c.third-item.result (omega (arith, many)) c.third-item.is short),
      subst IsShortEntry (sym c.deref-in-len4-up-3.ensures.value) (entry_short entries 3 c.fourth-item.result (omega (arith, many)) c.fourth-item.is short),
    )

pub append-requires-clause-short : goal.append-requires-clause-short
append-requires-clause-short g c =
    subst IsShortEntry (sym c.deref-2.ensures.value) (entry_short c.args.entries.now 0 c.index-entries-0.result c.requires.some c.index-entries-0.is c.requires.short)
