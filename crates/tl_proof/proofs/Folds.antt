-- A check that leads to the root of a list leads from the root of its prefix, or an input of the check
-- and one of the list collide.
use Rattle.std.proofs.Common.{◌≡◌, ℕ, ◌-◌, ◌<◌, ◌≤◌, ◌⊎◌, inl, inr, Bool, true, false, ◌&&◌, cond, eqb, leb, List, [], ◌∷◌, ◌++◌, length, take, drop, Option, Some, None, option_map, IfSome, Contains, refl, sym, ap, subst, ◌∙◌, arith}
use Rattle.std.specs.Prelude.{unwrap_or}
use Rattle.std.specs.List.{AllByRecursion}
use Rattle.std.proofs.lemmas.Bool.{cases_lt, cases_order, cases_Bool, cond_both, and_parts, eqb-true, eq-eqb, ne_eqb, le-leb, lt-leb}
use Rattle.std.proofs.lemmas.List.{take_all, take-take}
use Rattle.tl_hash.specs.Bytes.{Digest}
use Rattle.tl_hash.specs.Split.{split_point, IsSplit}
use Rattle.tl_hash.specs.Tree.{tree_hash, inputs, node_input}
use Rattle.tl_hash.proofs.SplitLemmas.{split_point_is, split_point-splits}
use Rattle.tl_hash.proofs.TreeLemmas.{length_first, length_rest, tree_hash-split, tree_hash-prefix, length-tree_hash}
use Rattle.tl_proof.specs.Acceptance.{roots_from, roots_of_whole, inputs_on_left, inputs_on_right}
use Rattle.tl_proof.specs.Collisions.{fold_inputs_from}
use Rattle.tl_proof.specs.Laws.{HasHashLength}
use Rattle.tl_hash.proofs.Bytes.{cases_bytes, node_input-injective}
use Rattle.tl_proof.proofs.Equations.{roots_from-left, roots_from-right}
use Rattle.tl_hash.proofs.SameSize.{Collision, Collision-among, Contains-head, Contains-tail, inputs-root, inputs-first, inputs-rest}

pub cases_option : {A : Type 0} (o : Option A) → (o ≡ None) ⊎ ((r : A) × (o ≡ Some r))
cases_option None = inl refl
cases_option (Some r) = inr (r, refl)

pub Some-injective : {A : Type 0} (p q : A) → Some p ≡ Some q → p ≡ q
Some-injective p q e = ap (λ o. unwrap_or o p) e

pub None-no_Some : {A : Type 0} (o : Option A) (p : A) → o ≡ None → o ≡ Some p → ⊥
None-no_Some o p none some = cc

-- every new root that a check leads to is a hash
pub IfSome-map : {A B : Type 0} (f : A → B) (P : B → Type 0) → ((a : A) → P (f a)) → (o : Option A) → IfSome (option_map f o) P
IfSome-map f P all None = tt
IfSome-map f P all (Some a) = all a

roots_of_whole-hash : (known : Bool) (last : List ℕ) (others : List (List ℕ)) → HasHashLength last → IfSome (roots_of_whole known (last ∷ others)) (λ r. HasHashLength r.1)
roots_of_whole-hash true last [] is = tt
roots_of_whole-hash false last [] is = is
roots_of_whole-hash known last (other ∷ others) is = tt

pub roots_from-hash : (H : Digest) → ((message : List ℕ) → HasHashLength (H message)) → (proof : List (List ℕ)) (old new : ℕ) (known : Bool) (root : List ℕ)
    → HasHashLength root → AllByRecursion HasHashLength proof → IfSome (roots_from H old new known proof root) (λ r. HasHashLength r.1)
unfolding roots_from
roots_from-hash H wide [] old new known root is all =
    cond_both (eqb old new && known) (Some (root, root)) None (λ o. IfSome o (λ r. HasHashLength r.1)) (λ e. is) (λ e. tt)
roots_from-hash H wide (last ∷ others) old new known root is all =
    let k : ℕ = split_point new in
    let P : Option (List ℕ × List ℕ) → Type 0 = λ o. IfSome o (λ r. HasHashLength r.1) in
    cond_both (eqb old new) (roots_of_whole known (last ∷ others))
    (cond (leb old k) (option_map (λ r. (r.0, H (node_input r.1 last))) (roots_from H old k known others root))
    (option_map (λ r. (H (node_input last r.0), H (node_input last r.1))) (roots_from H (old - k) (new - k) false others root)))
    P
    (λ e. roots_of_whole-hash known last others all.0)
    (λ e. cond_both (leb old k) (option_map (λ r. (r.0, H (node_input r.1 last))) (roots_from H old k known others root))
    (option_map (λ r. (H (node_input last r.0), H (node_input last r.1))) (roots_from H (old - k) (new - k) false others root)) P
    (λ d. IfSome-map (λ r. (r.0, H (node_input r.1 last))) (λ r. HasHashLength r.1) (λ r. wide (node_input r.1 last)) (roots_from H old k known others root))
    (λ d. IfSome-map (λ r. (H (node_input last r.0), H (node_input last r.1))) (λ r. HasHashLength r.1) (λ r. wide (node_input last r.1)) (roots_from H (old - k) (new - k) false others root)))

new_root-hash : (H : Digest) → ((message : List ℕ) → HasHashLength (H message)) → (proof : List (List ℕ)) (old new : ℕ) (known : Bool) (root : List ℕ) (r : List ℕ × List ℕ)
    → HasHashLength root → AllByRecursion HasHashLength proof → roots_from H old new known proof root ≡ Some r → HasHashLength r.1
new_root-hash H wide proof old new known root r is all leads = rw leads at (roots_from-hash H wide proof old new known root is all)

-- the inputs of a check, a step at a time
pub fold_inputs_from-left : (H : Digest) (k old new : ℕ) (known : Bool) (last : List ℕ) (others : List (List ℕ)) (root : List ℕ) → IsSplit k new → old ≤ k
    → fold_inputs_from H old new known (last ∷ others) root ≡ inputs_on_left (roots_from H old k known others root) last ++ fold_inputs_from H old k known others root
unfolding fold_inputs_from
fold_inputs_from-left H k old new known last others root s less =
    let differ : old ≡ new → ⊥ = λ e. omega (arith, e, less, s.below) in
    rw (split_point_is k new s, ne_eqb old new differ, le-leb old k less) refl

pub fold_inputs_from-right : (H : Digest) (k old new : ℕ) (known : Bool) (last : List ℕ) (others : List (List ℕ)) (root : List ℕ) → IsSplit k new → k < old → old < new
    → fold_inputs_from H old new known (last ∷ others) root ≡ inputs_on_right (roots_from H (old - k) (new - k) false others root) last ++ fold_inputs_from H (old - k) (new - k) false others root
unfolding fold_inputs_from
fold_inputs_from-right H k old new known last others root s more less =
    let differ : old ≡ new → ⊥ = λ e. omega (arith, e, less) in
    rw (split_point_is k new s, ne_eqb old new differ, lt-leb old k more) refl

pub roots_from-same : (H : Digest) (old new : ℕ) (known : Bool) (last : List ℕ) (others : List (List ℕ)) (root : List ℕ) → old ≡ new
    → roots_from H old new known (last ∷ others) root ≡ roots_of_whole known (last ∷ others)
unfolding roots_from
roots_from-same H old new known last others root same = rw (eq-eqb old new same) refl

-- what is to be shown of a check that leads to the roots a and b
abbrev Meets : (List ℕ → List ℕ) → ℕ → ℕ → Bool → List (List ℕ) → List ℕ → List (List ℕ) → List ℕ → Type 0
Meets H old new known proof root entries a =
    (a ≡ tree_hash H (take old entries)) ⊎ Collision H (fold_inputs_from H old new known proof root) (inputs H entries)

-- if all entries are old, the two roots are one
meets-whole : (H : Digest) (old new : ℕ) (known : Bool) (proof : List (List ℕ)) (root : List ℕ) (entries : List (List ℕ)) (a b : List ℕ)
    → length entries ≡ new → old ≡ new → a ≡ b → b ≡ tree_hash H entries → Meets H old new known proof root entries a
meets-whole H old new known proof root entries a b len same equal is =
    inl (equal ∙ is ∙ ap (tree_hash H) (sym (take_all old entries (omega (arith, len, same)))))

-- a node of the check and a node of the list with one hash: over the same hashes, or their inputs collide
pub nodes_meet : (H : Digest) → ((message : List ℕ) → HasHashLength (H message)) → (k : ℕ) (a b : List ℕ) (strings entries : List (List ℕ)) → IsSplit k (length entries)
    → HasHashLength a → Contains strings (node_input a b) → H (node_input a b) ≡ tree_hash H entries
    → ((a ≡ tree_hash H (take k entries)) × (b ≡ tree_hash H (drop k entries))) ⊎ Collision H strings (inputs H entries)
nodes_meet H wide k a b strings entries s is found same =
    let c : List ℕ = tree_hash H (take k entries) in let d : List ℕ = tree_hash H (drop k entries) in
    let len : length a ≡ length c = is ∙ sym (length-tree_hash H wide (take k entries)) in
    elim (cases_bytes (node_input a b) (node_input c d)) as (λ _. ((a ≡ c) × (b ≡ d)) ⊎ Collision H strings (inputs H entries)) [
      | inl equal ↦ inl (node_input-injective a b c d len equal)
      | inr differ ↦ inr (
        node_input a b,
        node_input c d,
        record {
          first = found;
          second = inputs-root H k entries s;
          differ = differ;
          same_digest = same ∙ tree_hash-split H k entries s;
        },
      )
    ]

abbrev MeetsAll : (List ℕ → List ℕ) → List (List ℕ) → Type 0
MeetsAll H proof = (old new : ℕ) (known : Bool) (root : List ℕ) (entries : List (List ℕ)) (a b : List ℕ)
    → length entries ≡ new → 0 < old → old ≤ new → HasHashLength root → AllByRecursion HasHashLength proof
    → roots_from H old new known proof root ≡ Some (a, b) → b ≡ tree_hash H entries → Meets H old new known proof root entries a

meets-nil : (H : Digest) → MeetsAll H []
unfolding roots_from
meets-nil H old new known root entries a b len some most root_is all leads is =
    elim (cases_Bool (eqb old new && known)) as (λ _. Meets H old new known [] root entries a) [
      | inl e ↦
          let pair : Some (root, root) ≡ Some (a, b) = rw e at leads in
          let p = Some-injective (root, root) (a, b) pair in
          let same : old ≡ new = eqb-true old new (and_parts (eqb old new) known e).0 in
          meets-whole H old new known [] root entries a b len same (sym (ap (λ (q : List ℕ × List ℕ). q.0) p) ∙ ap (λ (q : List ℕ × List ℕ). q.1) p) is
      | inr e ↦
          absurd (None-no_Some None (a, b) refl (rw e at leads))
    ]

meets-same : (H : Digest) (last : List ℕ) (others : List (List ℕ)) (old new : ℕ) (known : Bool) (root : List ℕ) (entries : List (List ℕ)) (a b : List ℕ)
    → length entries ≡ new → old ≡ new → roots_of_whole known (last ∷ others) ≡ Some (a, b) → b ≡ tree_hash H entries → Meets H old new known (last ∷ others) root entries a
meets-same H last [] old new true root entries a b len same leads is = absurd (cc)
meets-same H last [] old new false root entries a b len same leads is =
    let p = Some-injective (last, last) (a, b) leads in
    meets-whole H old new false (last ∷ []) root entries a b len same (sym (ap (λ (q : List ℕ × List ℕ). q.0) p) ∙ ap (λ (q : List ℕ × List ℕ). q.1) p) is
meets-same H last (other ∷ others) old new known root entries a b len same leads is = absurd (cc)

meets-left : (H : Digest) → ((message : List ℕ) → HasHashLength (H message)) → (last : List ℕ) (others : List (List ℕ)) → MeetsAll H others
    → (k old new : ℕ) (known : Bool) (root : List ℕ) (entries : List (List ℕ)) (a b : List ℕ) (r : List ℕ × List ℕ)
    → IsSplit k new → length entries ≡ new → 0 < old → old ≤ k → HasHashLength root → AllByRecursion HasHashLength others
    → roots_from H old k known others root ≡ Some r → r.0 ≡ a → H (node_input r.1 last) ≡ b → b ≡ tree_hash H entries → Meets H old new known (last ∷ others) root entries a
meets-left H wide last others deeper k old new known root entries a b r s len some less root_is all leads first second is =
    let t : IsSplit k (length entries) = subst (λ (n : ℕ). IsSplit k n) (sym len) s in
    let strings : List (List ℕ) = fold_inputs_from H old new known (last ∷ others) root in
    let rest : List (List ℕ) = fold_inputs_from H old k known others root in
    let fold : strings ≡ node_input r.1 last ∷ rest = fold_inputs_from-left H k old new known last others root s less ∙ ap (λ o. inputs_on_left o last ++ rest) leads in
    let found : Contains strings (node_input r.1 last) = rw fold (Contains-head (node_input r.1 last) rest) in
    let hash : HasHashLength r.1 = new_root-hash H wide others old k known root r root_is all leads in
    elim (nodes_meet H wide k r.1 last strings entries t hash found (second ∙ is)) as (λ _. Meets H old new known (last ∷ others) root entries a) [
      | inr collision ↦ inr collision
      | inl both ↦
          elim (deeper old k known root (take k entries) r.0 r.1 (length_first k entries t) some less root_is all leads both.0) as (λ _. Meets H old new known (last ∷ others) root entries a) [
            | inl equal ↦ inl (sym first ∙ equal ∙ ap (tree_hash H) (take-take old k entries less))
            | inr collision ↦ inr (Collision-among H rest (inputs H (take k entries)) strings (inputs H entries)
                (λ x here. rw fold (Contains-tail (node_input r.1 last) x rest here)) (inputs-first H k entries t) collision)
          ]
    ]

meets-right : (H : Digest) → ((message : List ℕ) → HasHashLength (H message)) → (last : List ℕ) (others : List (List ℕ)) → MeetsAll H others
    → (k old new : ℕ) (known : Bool) (root : List ℕ) (entries : List (List ℕ)) (a b : List ℕ) (r : List ℕ × List ℕ)
    → IsSplit k new → length entries ≡ new → k < old → old < new → HasHashLength root → HasHashLength last → AllByRecursion HasHashLength others
    → roots_from H (old - k) (new - k) false others root ≡ Some r → H (node_input last r.0) ≡ a → H (node_input last r.1) ≡ b → b ≡ tree_hash H entries → Meets H old new known (last ∷ others) root entries a
meets-right H wide last others deeper k old new known root entries a b r s len more less root_is last_is all leads first second is =
    let t : IsSplit k (length entries) = subst (λ (n : ℕ). IsSplit k n) (sym len) s in
    let strings : List (List ℕ) = fold_inputs_from H old new known (last ∷ others) root in
    let rest : List (List ℕ) = fold_inputs_from H (old - k) (new - k) false others root in
    let fold : strings ≡ node_input last r.0 ∷ node_input last r.1 ∷ rest = fold_inputs_from-right H k old new known last others root s more less ∙ ap (λ o. inputs_on_right o last ++ rest) leads in
    let found : Contains strings (node_input last r.1) = rw fold (Contains-tail (node_input last r.0) (node_input last r.1) (node_input last r.1 ∷ rest) (Contains-head (node_input last r.1) rest)) in
    let len_rest : length (drop k entries) ≡ new - k = length_rest k entries ∙ ap (λ (n : ℕ). n - k) len in
    elim (nodes_meet H wide k last r.1 strings entries t last_is found (second ∙ is)) as (λ _. Meets H old new known (last ∷ others) root entries a) [
      | inr collision ↦ inr collision
      | inl both ↦
          elim (deeper (old - k) (new - k) false root (drop k entries) r.0 r.1 len_rest (omega (arith, more)) (omega (arith, less)) root_is all leads both.1) as (λ _. Meets H old new known (last ∷ others) root entries a) [
            | inl equal ↦ inl (sym first ∙ (λ i. H (node_input (both.0 i) (equal i))) ∙ sym (tree_hash-prefix H k old entries t more (omega (arith, less, len))))
            | inr collision ↦ inr (Collision-among H rest (inputs H (drop k entries)) strings (inputs H entries)
                (λ x here. rw fold (Contains-tail (node_input last r.0) x (node_input last r.1 ∷ rest) (Contains-tail (node_input last r.1) x rest here))) (inputs-rest H k entries t) collision)
          ]
    ]

meets-step : (H : Digest) → ((message : List ℕ) → HasHashLength (H message)) → (last : List ℕ) (others : List (List ℕ)) → MeetsAll H others → MeetsAll H (last ∷ others)
meets-step H wide last others deeper old new known root entries a b len some most root_is all leads is =
    let k : ℕ = split_point new in
    elim (cases_order old new) as (λ _. Meets H old new known (last ∷ others) root entries a) [
      | inl same ↦ meets-same H last others old new known root entries a b len same (sym (roots_from-same H old new known last others root same) ∙ leads) is
      | inr (inr more) ↦ absurd (omega (arith, more, most))
      | inr (inl less) ↦
          let s : IsSplit k new = split_point-splits new (omega (arith, some, less)) in
          elim (cases_lt k old) as (λ _. Meets H old new known (last ∷ others) root entries a) [
            | inr within ↦
                let step = sym (roots_from-left H k old new known last others root s within) ∙ leads in
                elim (cases_option (roots_from H old k known others root)) as (λ _. Meets H old new known (last ∷ others) root entries a) [
                  | inl none ↦ absurd (None-no_Some None (a, b) refl (rw none at step))
                  | inr (r, found) ↦
                      let pair : Some (r.0, H (node_input r.1 last)) ≡ Some (a, b) = rw found at step in
                      let p = Some-injective (r.0, H (node_input r.1 last)) (a, b) pair in
                      meets-left H wide last others deeper k old new known root entries a b r s len some within root_is all.1 found
                      (ap (λ (q : List ℕ × List ℕ). q.0) p) (ap (λ (q : List ℕ × List ℕ). q.1) p) is
                ]
            | inl beyond ↦
                let step = sym (roots_from-right H k old new known last others root s beyond less) ∙ leads in
                elim (cases_option (roots_from H (old - k) (new - k) false others root)) as (λ _. Meets H old new known (last ∷ others) root entries a) [
                  | inl none ↦ absurd (None-no_Some None (a, b) refl (rw none at step))
                  | inr (r, found) ↦
                      let pair : Some (H (node_input last r.0), H (node_input last r.1)) ≡ Some (a, b) = rw found at step in
                      let p = Some-injective (H (node_input last r.0), H (node_input last r.1)) (a, b) pair in
                      meets-right H wide last others deeper k old new known root entries a b r s len beyond less root_is all.0 all.1 found
                      (ap (λ (q : List ℕ × List ℕ). q.0) p) (ap (λ (q : List ℕ × List ℕ). q.1) p) is
                ]
          ]
    ]

pub roots_meet : (H : Digest) → ((message : List ℕ) → HasHashLength (H message)) → (proof : List (List ℕ)) → MeetsAll H proof
roots_meet H wide [] = meets-nil H
roots_meet H wide (last ∷ others) = meets-step H wide last others (roots_meet H wide others)
