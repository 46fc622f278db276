-- A fold that comes to the tree hash of the entries was given their hashes, or an input of theirs and a
-- string that it hashed collide; and a fold that is given their hashes comes to their tree hash.
use Rattle.std.proofs.Common.{◌≡◌, ℕ, ◌+◌, ◌-◌, ◌*◌, ◌<◌, ◌≤◌, ◌⊎◌, inl, inr, List, [], ◌∷◌, ◌++◌, length, take, drop, Contains, refl, sym, ap, subst, ◌∙◌, arith}
use Rattle.std.proofs.lemmas.Bool.{cases_lt, cases_order}
use Rattle.std.proofs.lemmas.List.Elements.{Contains-append_left, Contains-append_right}
use Rattle.std.specs.Int.{IsPowerOfTwo}
use Rattle.tl_hash.specs.Bytes.{Digest}
use Rattle.tl_hash.specs.Split.{IsSplit}
use Rattle.tl_hash.specs.Tree.{tree_hash, inputs, node_input}
use Rattle.tl_hash.proofs.SplitLemmas.{IsSplit-unique}
use Rattle.tl_hash.proofs.TreeLemmas.{tree_hash-split, tree_hash-none, length-tree_hash}
use Rattle.tl_tile.proofs.Segments.{HasHashLength, segment, length-segment, segment-first, segment-rest, IsSplit-scaled, power_divides, power_in_split, positive_power, scaled_le}
use Rattle.tl_hash.proofs.Bytes.{cases_bytes, node_input-injective}
use Rattle.tl_hash.proofs.SameSize.{Collision, Collision-among, Contains-head, Contains-tail, inputs-root, inputs-first, inputs-rest}
use Rattle.tl_tile.specs.Folds.{IsFold, nothing, given, split}

-- every hash that a fold gives is a hash, if those given are
pub IsFold-hash : (H : Digest) (IsGiven : ℕ → ℕ → List ℕ → Type 0) → ((message : List ℕ) → HasHashLength (H message))
    → ((s c : ℕ) (h : List ℕ) → IsGiven s c h → HasHashLength h)
    → (start count : ℕ) (hash : List ℕ) (strings : List (List ℕ)) → IsFold H IsGiven start count hash strings → HasHashLength hash
IsFold-hash H IsGiven wide widths start count hash strings (nothing s) = wide []
IsFold-hash H IsGiven wide widths start count hash strings (given s c h some is) = widths s c h is
IsFold-hash H IsGiven wide widths start count hash strings (split s c k left right lefts rights none at first second) = wide (node_input left right)

-- two nodes with one hash: over the same hashes, or the two strings collide
pub nodes_meet : (H : Digest) → ((message : List ℕ) → HasHashLength (H message)) → (k : ℕ) (a b : List ℕ) (strings entries : List (List ℕ)) → IsSplit k (length entries)
    → HasHashLength a → Contains strings (node_input a b) → H (node_input a b) ≡ tree_hash H entries
    → ((a ≡ tree_hash H (take k entries)) × (b ≡ tree_hash H (drop k entries))) ⊎ Collision H strings (inputs H entries)
nodes_meet H wide k a b strings entries s is found same =
    let c : List ℕ = tree_hash H (take k entries) in let d : List ℕ = tree_hash H (drop k entries) in
    let len : length a ≡ length c = is ∙ sym (length-tree_hash H wide (take k entries)) in
    elim (cases_bytes (node_input a b) (node_input c d)) as (λ _. ((a ≡ c) × (b ≡ d)) ⊎ Collision H strings (inputs H entries)) [
      | inl equal ↦ inl (node_input-injective a b c d len equal)
      | inr differ ↦ inr (
        node_input a b,
        node_input c d,
        record {
          first = found;
          second = inputs-root H k entries s;
          differ = differ;
          same_digest = same ∙ tree_hash-split H k entries s;
        },
      )
    ]

-- a place at which a fold is given a hash, over w places from t on, and no hash is given over more
pub record IsTarget (IsGiven : ℕ → ℕ → List ℕ → Type 0) (t w : ℕ) (hash_there : List ℕ) : Type 0 where
  pub power : IsPowerOfTwo w
  pub is_given : IsGiven t w hash_there
  pub only : (h : List ℕ) → IsGiven t w h → h ≡ hash_there
  pub clear : (s c : ℕ) (h : List ℕ) → w < c → s ≤ t → t < s + c → IsGiven s c h → ⊥
  pub widths : (s c : ℕ) (h : List ℕ) → IsGiven s c h → HasHashLength h

abbrev pub Meets : (List ℕ → List ℕ) → ℕ → List (List ℕ) → ℕ → ℕ → List ℕ → ℕ → ℕ → List (List ℕ) → Type 0
Meets H u entries t w hash_there start count strings =
    (hash_there ≡ tree_hash H (segment u t w entries)) ⊎ Collision H strings (inputs H (segment u start count entries))

-- if the run is the target itself
meets-here : (H : Digest) (IsGiven : ℕ → ℕ → List ℕ → Type 0) (u : ℕ) (entries : List (List ℕ)) (t w : ℕ) (hash_there : List ℕ) → IsTarget IsGiven t w hash_there
    → (start count : ℕ) (hash : List ℕ) → start ≡ t → count ≡ w → IsGiven start count hash → hash ≡ tree_hash H (segment u start count entries)
    → hash_there ≡ tree_hash H (segment u t w entries)
meets-here H IsGiven u entries t w hash_there target start count hash at wide is same =
    let here : IsGiven t w hash = subst (λ (c : ℕ). IsGiven t c hash) wide (subst (λ (s : ℕ). IsGiven s count hash) at is) in
    sym (target.only hash here) ∙ same ∙ (λ i. tree_hash H (segment u (at i) (wide i) entries))

-- a collision within the left or the right part of a node
meets-left : (H : Digest) (k : ℕ) (a : List ℕ) (lefts rights entries part : List (List ℕ)) → IsSplit k (length entries) → take k entries ≡ part
    → Collision H lefts (inputs H part) → Collision H (a ∷ lefts ++ rights) (inputs H entries)
meets-left H k a lefts rights entries part s is found =
    Collision-among H lefts (inputs H (take k entries)) (a ∷ lefts ++ rights) (inputs H entries)
    (λ x here. Contains-tail a x (lefts ++ rights) (Contains-append_left lefts rights x here)) (inputs-first H k entries s)
    (subst (λ (list : List (List ℕ)). Collision H lefts (inputs H list)) (sym is) found)

meets-right : (H : Digest) (k : ℕ) (a : List ℕ) (lefts rights entries part : List (List ℕ)) → IsSplit k (length entries) → drop k entries ≡ part
    → Collision H rights (inputs H part) → Collision H (a ∷ lefts ++ rights) (inputs H entries)
meets-right H k a lefts rights entries part s is found =
    Collision-among H rights (inputs H (drop k entries)) (a ∷ lefts ++ rights) (inputs H entries)
    (λ x here. Contains-tail a x (lefts ++ rights) (Contains-append_right lefts rights x here)) (inputs-rest H k entries s)
    (subst (λ (list : List (List ℕ)). Collision H rights (inputs H list)) (sym is) found)

-- the walk down a fold and the tree, to the target
pub walk : (H : Digest) (IsGiven : ℕ → ℕ → List ℕ → Type 0) → ((message : List ℕ) → HasHashLength (H message))
    → (u : ℕ) → IsPowerOfTwo u → (entries : List (List ℕ)) (t w : ℕ) (hash_there : List ℕ) → IsTarget IsGiven t w hash_there
    → (start count : ℕ) (hash : List ℕ) (strings : List (List ℕ)) → IsFold H IsGiven start count hash strings
    → (start + count) * u ≤ length entries → hash ≡ tree_hash H (segment u start count entries)
    → (q : ℕ) → t ≡ start + q * w → t + w ≤ start + count → Meets H u entries t w hash_there start count strings
walk H IsGiven wide u power entries t w hash_there target start count hash strings (nothing s) within same q at inside =
    absurd (omega (arith, inside, at, positive_power w target.power))
walk H IsGiven wide u power entries t w hash_there target start count hash strings (given s c h some is) within same q at inside =
    elim (cases_order c w) as (λ _. Meets H u entries t w hash_there start count []) [
      | inl equal ↦ inl (meets-here H IsGiven u entries t w hash_there target s c h (omega (arith, equal, at, inside)) equal is same)
      | inr (inl less) ↦ absurd (omega (arith, less, at, inside))
      | inr (inr more) ↦ absurd (target.clear s c h more (omega (arith, at)) (omega (arith, inside, positive_power w target.power)) is)
    ]
walk H IsGiven wide u power entries t w hash_there target start count hash strings (split s c k left right lefts rights none at_split first second) within same q at inside =
    elim (cases_lt w c) as (λ _. Meets H u entries t w hash_there start count strings) [
      | inr small ↦
          let here : t ≡ s = omega (arith, small, at, inside) in
          let whole : w ≡ c = omega (arith, small, at, inside) in
          absurd (none hash_there (subst (λ (x : ℕ). IsGiven s x hash_there) whole (subst (λ (x : ℕ). IsGiven x w hash_there) here target.is_given)))
      | inl more ↦
          let multiple = power_divides w k target.power at_split.power (power_in_split w k c target.power at_split more) in
          let j : ℕ = multiple.0 in
          let k_is : k ≡ j * w = multiple.1 in
          let k_in : k ≤ c = omega (arith, at_split.below) in
          let here : List (List ℕ) = segment u s c entries in
          let scaled : IsSplit (k * u) (length here) = subst (λ (n : ℕ). IsSplit (k * u) n) (sym (length-segment u s c entries within)) (IsSplit-scaled k c u power at_split) in
          let part_first : take (k * u) here ≡ segment u s k entries = segment-first u s k c entries k_in in
          let part_rest : drop (k * u) here ≡ segment u (s + k) (c - k) entries = segment-rest u s k c entries k_in in
          let left_is : HasHashLength left = IsFold-hash H IsGiven wide target.widths s k left lefts first in
          elim (nodes_meet H wide (k * u) left right (node_input left right ∷ lefts ++ rights) here scaled left_is (Contains-head (node_input left right) (lefts ++ rights)) same) as (λ _. Meets H u entries t w hash_there s c (node_input left right ∷ lefts ++ rights)) [
            | inr collision ↦ inr collision
            | inl both ↦
                elim (cases_lt q j) as (λ _. Meets H u entries t w hash_there s c (node_input left right ∷ lefts ++ rights)) [
                  | inl below ↦
                      let room : (q + 1) * w ≤ j * w = scaled_le (q + 1) j w (omega (arith, below)) in
                      let fits : (s + k) * u ≤ (s + c) * u = scaled_le (s + k) (s + c) u (omega (arith, k_in)) in
                      elim (walk H IsGiven wide u power entries t w hash_there target s k left lefts first (omega (arith, fits, within)) (both.0 ∙ ap (tree_hash H) part_first) q at (omega (arith, at, room, k_is)))
                      as (λ _. Meets H u entries t w hash_there s c (node_input left right ∷ lefts ++ rights)) [
                        | inl right_is ↦ inl right_is
                        | inr collision ↦ inr (meets-left H (k * u) (node_input left right) lefts rights here (segment u s k entries) scaled part_first collision)
                      ]
                  | inr above ↦
                      let whole : q ≡ j + (q - j) = omega (arith, above) in
                      let product : q * w ≡ j * w + (q - j) * w = ap (λ (x : ℕ). x * w) whole ∙ omega arith in
                      let sum : s + k + (c - k) ≡ s + c = omega (arith, k_in) in
                      let fits : (s + k + (c - k)) * u ≡ (s + c) * u = ap (λ (x : ℕ). x * u) sum in
                      elim (walk H IsGiven wide u power entries t w hash_there target (s + k) (c - k) right rights second (omega (arith, fits, within)) (both.1 ∙ ap (tree_hash H) part_rest) (q - j) (omega (arith, at, product, k_is)) (omega (arith, inside, sum)))
                      as (λ _. Meets H u entries t w hash_there s c (node_input left right ∷ lefts ++ rights)) [
                        | inl right_is ↦ inl right_is
                        | inr collision ↦ inr (meets-right H (k * u) (node_input left right) lefts rights here (segment u (s + k) (c - k) entries) scaled part_rest collision)
                      ]
                ]
          ]
    ]

-- a fold that is given the hashes of the entries comes to their tree hash
pub fold_of_right : (H : Digest) (IsGiven : ℕ → ℕ → List ℕ → Type 0) (u : ℕ) → IsPowerOfTwo u → (entries : List (List ℕ))
    → (start count : ℕ) (hash : List ℕ) (strings : List (List ℕ)) → IsFold H IsGiven start count hash strings → (start + count) * u ≤ length entries
    → ((s c : ℕ) (h : List ℕ) → start ≤ s → s + c ≤ start + count → IsGiven s c h → h ≡ tree_hash H (segment u s c entries))
    → hash ≡ tree_hash H (segment u start count entries)
fold_of_right H IsGiven u power entries start count hash strings (nothing s) within right_given =
    let none : 0 * u ≡ 0 = omega arith in
    sym (tree_hash-none H) ∙ ap (λ (x : ℕ). tree_hash H (take x (drop (s * u) entries))) (sym none)
fold_of_right H IsGiven u power entries start count hash strings (given s c h some is) within right_given =
    right_given s c h (omega arith) (omega arith) is
fold_of_right H IsGiven u power entries start count hash strings (split s c k left right lefts rights none at_split first second) within right_given =
    let k_in : k ≤ c = omega (arith, at_split.below) in
    let here : List (List ℕ) = segment u s c entries in
    let scaled : IsSplit (k * u) (length here) = subst (λ (n : ℕ). IsSplit (k * u) n) (sym (length-segment u s c entries within)) (IsSplit-scaled k c u power at_split) in
    let sum : s + k + (c - k) ≡ s + c = omega (arith, k_in) in
    let fits_left : (s + k) * u ≤ (s + c) * u = scaled_le (s + k) (s + c) u (omega (arith, k_in)) in
    let fits_right : (s + k + (c - k)) * u ≡ (s + c) * u = ap (λ (x : ℕ). x * u) sum in
    let left_is : left ≡ tree_hash H (segment u s k entries) =
    fold_of_right H IsGiven u power entries s k left lefts first (omega (arith, fits_left, within))
    (λ a b h low high is. right_given a b h low (omega (arith, high, k_in)) is) in
    let right_is : right ≡ tree_hash H (segment u (s + k) (c - k) entries) =
    fold_of_right H IsGiven u power entries (s + k) (c - k) right rights second (omega (arith, fits_right, within))
    (λ a b h low high is. right_given a b h (omega (arith, low)) (omega (arith, high, sum)) is) in
    (λ i. H (node_input (left_is i) (right_is i)))
    ∙ (λ i. H (node_input (tree_hash H (sym (segment-first u s k c entries k_in) i)) (tree_hash H (sym (segment-rest u s k c entries k_in) i))))
    ∙ sym (tree_hash-split H (k * u) here scaled)

-- a fold has one hash, if one hash is given of a run
pub IsFold-unique : (H : Digest) (IsGiven : ℕ → ℕ → List ℕ → Type 0) → ((s c : ℕ) (h g : List ℕ) → IsGiven s c h → IsGiven s c g → h ≡ g)
    → (start count : ℕ) (hash : List ℕ) (strings : List (List ℕ)) → IsFold H IsGiven start count hash strings
    → (other : List ℕ) (others : List (List ℕ)) → IsFold H IsGiven start count other others → hash ≡ other
IsFold-unique H IsGiven one start count hash strings (nothing s) other others (nothing r) = refl
IsFold-unique H IsGiven one start count hash strings (nothing s) other others (given r c h some is) = absurd (omega (arith, some))
IsFold-unique H IsGiven one start count hash strings (nothing s) other others (split r c k left right lefts rights none at_split first second) = absurd (omega (arith, at_split.below))
IsFold-unique H IsGiven one start count hash strings (given s c h some is) other others (nothing r) = absurd (omega (arith, some))
IsFold-unique H IsGiven one start count hash strings (given s c h some is) other others (given r d g more is_too) = one s c h g is is_too
IsFold-unique H IsGiven one start count hash strings (given s c h some is) other others (split r d k left right lefts rights none at_split first second) = absurd (none h is)
IsFold-unique H IsGiven one start count hash strings (split s c k left right lefts rights none at_split first second) other others (nothing r) = absurd (omega (arith, at_split.below))
IsFold-unique H IsGiven one start count hash strings (split s c k left right lefts rights none at_split first second) other others (given r d h some is) = absurd (none h is)
IsFold-unique H IsGiven one start count hash strings (split s c k left right lefts rights none at_split first second) other others (split r d j l m ls ms none_too at_too first_too second_too) =
    let same : j ≡ k = IsSplit-unique j k c at_too at_split in
    let left_is : left ≡ l = IsFold-unique H IsGiven one s k left lefts first l ls (subst (λ (x : ℕ). IsFold H IsGiven s x l ls) same first_too) in
    let right_is : right ≡ m = IsFold-unique H IsGiven one (s + k) (c - k) right rights second m ms (subst (λ (x : ℕ). IsFold H IsGiven (s + x) (c - x) m ms) same second_too) in
    λ i. H (node_input (left_is i) (right_is i))
