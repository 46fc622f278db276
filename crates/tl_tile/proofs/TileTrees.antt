-- The tree over the hashes of a full tile, and the trees that a read keeps.
use Rattle.std.proofs.Common.{◌≡◌, ℕ, zero, suc, ◌+◌, ◌-◌, ◌*◌, ◌^◌, ◌<◌, ◌≤◌, ◌⊎◌, inl, inr, List, [], ◌∷◌, ◌++◌, length, get_or, refl, sym, ap, subst, ◌∙◌, arith}
use Rattle.std.specs.Int.{IsPowerOfTwo}
use Rattle.std.proofs.Math.Nat.{pow-succ'}
use Rattle.std.proofs.lemmas.Bool.{cases_lt}
use Rattle.std.proofs.lemmas.List.{length_push, get_or_append_left, get_or-append_right, get_or_default}
use Rattle.tl_hash.specs.Bytes.{Digest}
use Rattle.tl_hash.specs.Tree.{node_input}
use Rattle.tl_tile.specs.Folds.{IsHashAt}
use Rattle.tl_tile.specs.Inner.EdgeRoot.{Part}
use Rattle.tl_tile.specs.Inner.TileTree.{level_start, IsTreeSoFar}
use Rattle.tl_tile.proofs.Parts.{part-one, part-split}
use Rattle.tl_tile.proofs.Segments.{positive_power, scaled_le}

-- ---- one hash more

pub push-many : (hashes after : List (List ℕ)) (new : List ℕ) (n : ℕ) → length hashes ≡ n → after ≡ hashes ++ new ∷ [] → length after ≡ n + 1
push-many hashes after new n many pushed = omega (arith, many, ap length pushed, length_push hashes new)

before-push : (hashes after : List (List ℕ)) (new : List ℕ) (n : ℕ) → after ≡ hashes ++ new ∷ [] → n < length hashes → get_or after n [] ≡ get_or hashes n []
before-push hashes after new n pushed less = ap (λ (list : List (List ℕ)). get_or list n []) pushed ∙ get_or_append_left hashes (new ∷ []) [] n less

at-push : (hashes after : List (List ℕ)) (new : List ℕ) (n : ℕ) → length hashes ≡ n → after ≡ hashes ++ new ∷ [] → get_or after n [] ≡ new
at-push hashes after new n many pushed =
    let here : n - n ≡ 0 = omega arith in
    ap (λ (list : List (List ℕ)). get_or list n []) pushed ∙ get_or-append_right hashes (new ∷ []) n n [] many (omega arith) ∙ ap (λ (x : ℕ). get_or (new ∷ []) x []) here

pub push-own : (text : List ℕ) (hashes after : List (List ℕ)) (new : List ℕ) (n : ℕ) → length hashes ≡ n → after ≡ hashes ++ new ∷ []
    → ((i : ℕ) → i < n → IsHashAt text i (get_or hashes i [])) → IsHashAt text n new → (i : ℕ) → i < n + 1 → IsHashAt text i (get_or after i [])
push-own text hashes after new n many pushed own here i less =
    elim (cases_lt i n) as (λ _. IsHashAt text i (get_or after i [])) [
      | inl below ↦ subst (IsHashAt text i) (sym (before-push hashes after new i pushed (omega (arith, below, many)))) (own i below)
      | inr above ↦
          let is : i ≡ n = omega (arith, above, less) in
          subst (λ (x : ℕ). IsHashAt text x (get_or after x [])) (sym is) (subst (IsHashAt text n) (sym (at-push hashes after new n many pushed)) here)
    ]

-- ---- the tree

power_cases : (w : ℕ) → IsPowerOfTwo w → (w ≡ 1) ⊎ ((h : ℕ) × IsPowerOfTwo h × (w ≡ 2 * h))
power_cases w (zero, is) = inl is
power_cases w (suc k, is) = inr (2 ^ k, (k, refl), is ∙ pow-succ' 2 k)

-- a level of more than one tile's hash under each has at most 128
few-above : (count width : ℕ) → count * width ≡ 256 → 2 ≤ width → 2 * count ≤ 256
few-above count width product wide = omega (arith, product, scaled_le 2 width count wide)

pub tree-own : (H : Digest) (text : List ℕ) (hashes : List (List ℕ)) → length hashes ≡ 256 → ((n : ℕ) → n < 256 → IsHashAt text n (get_or hashes n [])) → IsTreeSoFar H text 256 hashes
tree-own H text hashes many own = record {
  many = many;
  own = own;
  parts = λ count width place power product less early.
      elim (power_cases width power) as (λ _. Part H text (place * width) width (get_or hashes (level_start count + place) [])) [
        | inr (h, half, is) ↦
            (let some = positive_power h half in
            absurd (omega (arith, early, few-above count width product (omega (arith, is, some)))))
        | inl one ↦
            let all : count ≡ 256 = omega (arith, product, ap (λ (x : ℕ). count * x) one) in
            let at : level_start count + place ≡ place = omega (arith, all) in
            let start : place * width ≡ place = ap (λ (x : ℕ). place * x) one ∙ omega arith in
            let here : IsHashAt text place (get_or hashes place []) = own place (omega (arith, less, all)) in
            subst (λ (x : ℕ). Part H text (place * width) width (get_or hashes x [])) (sym at)
            (part-one H text (place * width) width (get_or hashes place []) one (subst (λ (x : ℕ). IsHashAt text x (get_or hashes place [])) (sym start) here))
      ];
}

-- the hash at a place of the list, in other words
at-place : (hashes : List (List ℕ)) (i j : ℕ) (hash : List ℕ) → i < length hashes → hash ≡ get_or hashes i hash → j ≡ i → get_or hashes j [] ≡ hash
at-place hashes i j hash within is same = ap (λ (x : ℕ). get_or hashes x []) same ∙ get_or_default hashes i [] hash within ∙ sym is

-- the node over two hashes that stand side by side
node-part : (H : Digest) (text : List ℕ) (i : ℕ) (hashes : List (List ℕ)) (left right new : List ℕ) → i < 255 → IsTreeSoFar H text (256 + i) hashes
    → left ≡ get_or hashes (2 * i) left → right ≡ get_or hashes (2 * i + 1) right → new ≡ H (node_input left right)
    → (count width place h : ℕ) → IsPowerOfTwo h → width ≡ 2 * h → count * width ≡ 256 → place < count → level_start count + place ≡ 256 + i → Part H text (place * width) width new
node-part H text i hashes left right new low tree left_is right_is new_is count width place h half is product less at =
    let some : 0 < h = positive_power h half in
    let few : 2 * count ≤ 256 = few-above count width product (omega (arith, is, some)) in
    let below : 2 * count * h ≡ 256 = omega (arith, product, ap (λ (x : ℕ). count * x) is) in
    let from : 2 * place * h ≡ place * width = sym (ap (λ (x : ℕ). place * x) is ∙ omega arith) in
    let next : (2 * place + 1) * h ≡ place * width + h = omega (arith, from) in
    let rest : h ≡ width - h = omega (arith, is) in
    let at_left : level_start (2 * count) + 2 * place ≡ 2 * i = omega (arith, at, few) in
    let at_right : level_start (2 * count) + (2 * place + 1) ≡ 2 * i + 1 = omega (arith, at_left) in
    let first : Part H text (2 * place * h) h (get_or hashes (level_start (2 * count) + 2 * place) []) =
    tree.parts (2 * count) h (2 * place) half below (omega (arith, less)) (omega (arith, at_left, low)) in
    let second : Part H text ((2 * place + 1) * h) h (get_or hashes (level_start (2 * count) + (2 * place + 1)) []) =
    tree.parts (2 * count) h (2 * place + 1) half below (omega (arith, less)) (omega (arith, at_right, low)) in
    let left_hash = at-place hashes (2 * i) (level_start (2 * count) + 2 * place) left (omega (arith, tree.many, low)) left_is at_left in
    let right_hash = at-place hashes (2 * i + 1) (level_start (2 * count) + (2 * place + 1)) right (omega (arith, tree.many, low)) right_is at_right in
    part-split H text (place * width) width h left right new
    (record { power = half; below = omega (arith, is, some); largest = omega (arith, is) })
    (subst (λ (x : ℕ). Part H text x h left) from (subst (Part H text (2 * place * h) h) left_hash first))
    (subst (λ (x : ℕ). Part H text x (width - h) right) next (subst (λ (x : ℕ). Part H text ((2 * place + 1) * h) x right) rest (subst (Part H text ((2 * place + 1) * h) h) right_hash second)))
    new_is

pub tree-push : (H : Digest) (text : List ℕ) (i : ℕ) (hashes after : List (List ℕ)) (left right new : List ℕ) → i < 255 → IsTreeSoFar H text (256 + i) hashes
    → left ≡ get_or hashes (2 * i) left → right ≡ get_or hashes (2 * i + 1) right → new ≡ H (node_input left right) → after ≡ hashes ++ new ∷ []
    → IsTreeSoFar H text (256 + (i + 1)) after
tree-push H text i hashes after left right new low tree left_is right_is new_is pushed = record {
  many = omega (arith, push-many hashes after new (256 + i) tree.many pushed);
  own = λ n less. subst (IsHashAt text n) (sym (before-push hashes after new n pushed (omega (arith, less, tree.many)))) (tree.own n less);
  parts = λ count width place power product less early.
      let at : ℕ = level_start count + place in
      elim (cases_lt at (256 + i)) as (λ _. Part H text (place * width) width (get_or after at [])) [
        | inl before ↦
            subst (Part H text (place * width) width) (sym (before-push hashes after new at pushed (omega (arith, before, tree.many)))) (tree.parts count width place power product less before)
        | inr later ↦
            let here : at ≡ 256 + i = omega (arith, later, early) in
            let hash : get_or after at [] ≡ new = ap (λ (x : ℕ). get_or after x []) here ∙ at-push hashes after new (256 + i) tree.many pushed in
            elim (power_cases width power) as (λ _. Part H text (place * width) width (get_or after at [])) [
              | inl one ↦
                  (let all : count ≡ 256 = omega (arith, product, ap (λ (x : ℕ). count * x) one) in
                  absurd (omega (arith, here, all, less)))
              | inr (h, half, is) ↦
                  subst (Part H text (place * width) width) (sym hash)
                  (node-part H text i hashes left right new low tree left_is right_is new_is count width place h half is product less here)
            ]
      ];
}
