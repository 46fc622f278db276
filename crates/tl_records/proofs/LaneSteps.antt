-- Proofs followed side by side, each a step at a time.
use Rattle.std.proofs.Common.{◌≡◌, ◌≢◌, ◌<◌, ◌≤◌, ◌↔◌, All, drop, subst, ℕ, ◌-◌, Bool, List, [], ◌∷◌, length, take, reverse, get_or, slice_index_or, Option, Some, None, option_map, if◌then◌else◌, refl, sym, ap, ◌∙◌, arith}
use Rattle.std.specs.Prelude.{IfSome}
use Rattle.std.proofs.lemmas.Bool.{eq-eqb}
use Rattle.tl_hash.specs.Bytes.{Digest}
use Rattle.tl_hash.specs.Tree.{node_input}
use Rattle.tl_proof.specs.Acceptance.{root_from_leaf, AcceptsInclusion}
use Rattle.tl_records.specs.Inner.Lanes.{lane_root, node_with, LeadsTo}
use Rattle.tl_records.specs.declared.checking.ClaimWalk.{ClaimWalk}
use Rattle.std.proofs.lemmas.List.{get_or_default}
use Rattle.std.proofs.lemmas.List.Elements.{All-cons, All-head, All-tail}
use Rattle.tl_proof.proofs.Folds.{Some-injective}
use Rattle.tl_proof.proofs.Checks.{reverse_last}

-- the leaf of a whole tree
pub lane-leaf : (H : Digest) (lane : ClaimWalk) → lane.size ≡ 1 → lane_root H lane [] ≡ Some lane.leaf
unfolding root_from_leaf
lane-leaf H lane one = rw (eq-eqb lane.size 1 one) refl

-- whole trees lead to their leaves by proofs that are empty
pub leaves-lead : (H : Digest) (lane : ClaimWalk) (proof : List (List ℕ)) (roots : Option (List (List ℕ))) (n : ℕ) → length proof ≡ 0
    → IfSome roots (λ r. (G : Digest) → lane_root G lane [] ≡ Some (slice_index_or r n [])) → IfSome roots (λ r. LeadsTo H lane proof (slice_index_or r n []))
leaves-lead H lane [] None n none leads = tt
leaves-lead H lane [] (Some r) n none leads = leads H
leaves-lead H lane (hash ∷ proof) roots n none leads = absurd (omega (arith, none))

-- the root of a tree, from that of its part below
pub lane-up : (H : Digest) (lane below : ClaimWalk) (on_left : Bool) (n : ℕ) (xs : List (List ℕ)) (x left right root node : List ℕ) → length xs ≡ n → n ≢ 0 → x ≡ get_or xs (n - 1) x
    → ((last : List ℕ) (others : List (List ℕ)) → lane_root H lane (last ∷ others) ≡ option_map (node_with H on_left last) (lane_root H below others))
    → lane_root H below (reverse (take (n - 1) xs)) ≡ Some root
    → left ≡ (if on_left then root else x) → right ≡ (if on_left then x else root) → node ≡ H (node_input left right)
    → lane_root H lane (reverse xs) ≡ Some node
lane-up H lane below on_left n xs x left right root node len some x_is step leads left_is right_is node_is =
    let some_there : length xs ≢ 0 = λ e. some (sym len ∙ e) in
    let at_last : x ≡ get_or xs (length xs - 1) x = x_is ∙ ap (λ (m : ℕ). get_or xs (m - 1) x) (sym len) in
    let before : reverse (take (length xs - 1) xs) ≡ reverse (take (n - 1) xs) = ap (λ (m : ℕ). reverse (take (m - 1) xs)) len in
    let same : node ≡ node_with H on_left x root = node_is ∙ (λ i. H (node_input (left_is i) (right_is i))) in
    ap (lane_root H lane) (reverse_last xs x some_there at_last ∙ (λ i. x ∷ before i))
    ∙ step x (reverse (take (n - 1) xs))
    ∙ ap (option_map (node_with H on_left x)) leads
    ∙ ap (λ (z : List ℕ). Some z) (sym same)

-- ---- four at once

-- a proof that leads to a hash is accepted for it alone
pub accepts-led : (H : Digest) (proof : List (List ℕ)) (size : ℕ) (root : List ℕ) (index : ℕ) (leaf found : List ℕ) → root_from_leaf H index size (reverse proof) leaf ≡ Some found
    → ((index < size) × (found ≡ root)) ↔ AcceptsInclusion H proof size root index leaf
unfolding AcceptsInclusion
accepts-led H proof size root index leaf found leads =
    (λ is. (is.0, leads ∙ ap (λ (z : List ℕ). Some z) is.1), λ a. (a.0, Some-injective found root (sym leads ∙ a.1)))

-- the hash that it leads to is one of a list
pub accepts-at : (H : Digest) (proof : List (List ℕ)) (size : ℕ) (root : List ℕ) (index : ℕ) (leaf other : List ℕ) (roots : List (List ℕ)) (j : ℕ) → j < length roots
    → root_from_leaf H index size (reverse proof) leaf ≡ Some (get_or roots j []) → ((index < size) × (get_or roots j other ≡ root)) ↔ AcceptsInclusion H proof size root index leaf
accepts-at H proof size root index leaf other roots j within leads =
    accepts-led H proof size root index leaf (get_or roots j other) (leads ∙ ap (λ (z : List ℕ). Some z) (sym (get_or_default roots j other [] within)))

-- four facts, each with its test
pub iff_four : {A B C D P Q R S W : Type 0} → (W ↔ (A × B × C × D)) → (A ↔ P) → (B ↔ Q) → (C ↔ R) → (D ↔ S) → W ↔ (P × Q × R × S)
iff_four all a b c d = (
  λ w. let h = all.0 w in (a.0 h.0, b.0 h.1, c.0 h.2, d.0 h.3),
  λ h. all.1 (a.1 h.0, b.1 h.1, c.1 h.2, d.1 h.3),
)

pub iff_both : {A P Q : Type 0} → (A ↔ P) → (P ↔ Q) → A ↔ Q
iff_both a p = (λ x. p.0 (a.0 x), λ q. a.1 (p.1 q))

four_items : {X : Type 0} (xs rest : List X) (a b c d : X) → 4 ≤ length xs
    → a ≡ get_or xs 0 a → b ≡ get_or xs 1 b → c ≡ get_or xs 2 c → d ≡ get_or xs 3 d → rest ≡ drop 4 xs
    → xs ≡ a ∷ b ∷ c ∷ d ∷ rest
four_items [] rest a b c d low a_is b_is c_is d_is rest_is = absurd (omega (arith, low))
four_items (x ∷ []) rest a b c d low a_is b_is c_is d_is rest_is = absurd (omega (arith, low))
four_items (x ∷ y ∷ []) rest a b c d low a_is b_is c_is d_is rest_is = absurd (omega (arith, low))
four_items (x ∷ y ∷ z ∷ []) rest a b c d low a_is b_is c_is d_is rest_is = absurd (omega (arith, low))
four_items (x ∷ y ∷ z ∷ w ∷ xs) rest a b c d low a_is b_is c_is d_is rest_is =
    λ i. sym a_is i ∷ sym b_is i ∷ sym c_is i ∷ sym d_is i ∷ sym rest_is i

-- the first four of a list and the others
pub All-four : {X : Type 0} (P : X → Type 0) → (xs rest : List X) (a b c d : X) → 4 ≤ length xs
    → a ≡ get_or xs 0 a → b ≡ get_or xs 1 b → c ≡ get_or xs 2 c → d ≡ get_or xs 3 d → rest ≡ drop 4 xs
    → All P xs ↔ ((P a × P b × P c × P d) × All P rest)
All-four P xs rest a b c d low a_is b_is c_is d_is rest_is =
    let parts : xs ≡ a ∷ b ∷ c ∷ d ∷ rest = four_items xs rest a b c d low a_is b_is c_is d_is rest_is in (
      λ all.
          let all_a : All P (a ∷ b ∷ c ∷ d ∷ rest) = subst (All P) parts all in
          let all_b = All-tail P a (b ∷ c ∷ d ∷ rest) all_a in
          let all_c = All-tail P b (c ∷ d ∷ rest) all_b in
          let all_d = All-tail P c (d ∷ rest) all_c in (
            (All-head P a (b ∷ c ∷ d ∷ rest) all_a, All-head P b (c ∷ d ∷ rest) all_b, All-head P c (d ∷ rest) all_c, All-head P d rest all_d),
            All-tail P d rest all_d,
          ),
      λ all.
          subst (All P) (sym parts)
          (All-cons P a (b ∷ c ∷ d ∷ rest) all.0.0 (All-cons P b (c ∷ d ∷ rest) all.0.1 (All-cons P c (d ∷ rest) all.0.2 (All-cons P d rest all.0.3 all.1)))),
    )
