-- The inputs of a complete subtree are among those of the tree.
use Rattle.std.proofs.Common.{◌≡◌, ℕ, ◌+◌, ◌-◌, ◌*◌, ◌≤◌, inl, inr, List, [], ◌∷◌, length, take, drop, Contains, sym, ap, subst, ◌∙◌, arith}
use Rattle.std.proofs.lemmas.Bool.{cases_lt}
use Rattle.std.proofs.lemmas.List.{take-take, drop-drop, drop-take, take_all}
use Rattle.std.specs.Int.{IsPowerOfTwo}
use Rattle.tl_hash.specs.Bytes.{Digest}
use Rattle.tl_hash.specs.Split.{IsSplit}
use Rattle.tl_hash.specs.Tree.{inputs}
use Rattle.tl_hash.proofs.TreeLemmas.{split_induction, length_first, length_rest}
use Rattle.tl_hash.proofs.SameSize.{inputs-first, inputs-rest}
use Rattle.tl_tile.proofs.Segments.{power_divides, power_in_split, positive_power, scaled_le}

-- a part of a prefix that ends within it
part_of_first : (a v k : ℕ) (entries : List (List ℕ)) → a + v ≤ k → take v (drop a (take k entries)) ≡ take v (drop a entries)
part_of_first a v k entries within =
    let sum : k ≡ a + (k - a) = omega (arith, within) in
    ap (λ (x : ℕ). take v (drop a (take x entries))) sum
    ∙ ap (take v) (drop-take a (k - a) entries)
    ∙ take-take v (k - a) (drop a entries) (omega (arith, within))

-- the whole of a list
part_is_whole : (a v : ℕ) (entries : List (List ℕ)) → a ≡ 0 → length entries ≤ v → take v (drop a entries) ≡ entries
part_is_whole a v entries none all = ap (λ (x : ℕ). take v (drop x entries)) none ∙ take_all v entries all

abbrev Holds : (List ℕ → List ℕ) → ℕ → List (List ℕ) → Type 0
Holds H v entries = (q : ℕ) → (q + 1) * v ≤ length entries → (x : List ℕ) → Contains (inputs H (take v (drop (q * v) entries))) x → Contains (inputs H entries) x

holds-whole : (H : Digest) (v q : ℕ) (entries : List (List ℕ)) → q * v ≡ 0 → length entries ≤ v → (x : List ℕ) → Contains (inputs H (take v (drop (q * v) entries))) x → Contains (inputs H entries) x
holds-whole H v q entries none all x found =
    subst (λ (list : List (List ℕ)). Contains (inputs H list) x) (part_is_whole (q * v) v entries none all) found

holds-split : (H : Digest) (v : ℕ) → IsPowerOfTwo v → (k : ℕ) (entries : List (List ℕ)) → IsSplit k (length entries)
    → Holds H v (take k entries) → Holds H v (drop k entries) → Holds H v entries
holds-split H v power k entries s first rest q within x found =
    elim (cases_lt v (length entries)) as (λ _. Contains (inputs H entries) x) [
      | inr all ↦
          holds-whole H v q entries (omega (arith, within, all, positive_power v power)) all x found
      | inl more ↦
          let multiple = power_divides v k power s.power (power_in_split v k (length entries) power s more) in
          let j : ℕ = multiple.0 in
          let k_is : k ≡ j * v = multiple.1 in
          elim (cases_lt q j) as (λ _. Contains (inputs H entries) x) [
            | inl below ↦
                let room : (q + 1) * v ≤ j * v = scaled_le (q + 1) j v (omega (arith, below)) in
                inputs-first H k entries s x
                (first q (omega (arith, room, k_is, length_first k entries s)) x
                (subst (λ (list : List (List ℕ)). Contains (inputs H list) x) (sym (part_of_first (q * v) v k entries (omega (arith, room, k_is)))) found))
            | inr above ↦
                let whole : q ≡ j + (q - j) = omega (arith, above) in
                let product : q * v ≡ j * v + (q - j) * v = ap (λ (y : ℕ). y * v) whole ∙ omega arith in
                let sum : k + (q - j) * v ≡ q * v = omega (arith, product, k_is) in
                let same : take v (drop ((q - j) * v) (drop k entries)) ≡ take v (drop (q * v) entries) =
                ap (take v) (drop-drop ((q - j) * v) k entries) ∙ ap (λ (y : ℕ). take v (drop y entries)) sum in
                inputs-rest H k entries s x
                (rest (q - j) (omega (arith, within, product, k_is, length_rest k entries)) x
                (subst (λ (list : List (List ℕ)). Contains (inputs H list) x) (sym same) found))
          ]
    ]

pub inputs-subtree : (H : Digest) (v : ℕ) → IsPowerOfTwo v → (entries : List (List ℕ)) → Holds H v entries
inputs-subtree H v power entries =
    split_induction (Holds H v)
    (λ q within x found. absurd (omega (arith, within, positive_power v power)))
    (λ entry q within x found. holds-whole H v q (entry ∷ []) (omega (arith, within, positive_power v power)) (omega (arith, positive_power v power)) x found)
    (holds-split H v power)
    entries
