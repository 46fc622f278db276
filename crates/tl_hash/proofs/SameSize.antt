-- Two lists of one size with one root are one list, or two of their inputs collide.
use Rattle.std.proofs.Common.{◌≡◌, ℕ, suc, ◌⊎◌, inl, inr, List, [], ◌∷◌, ◌++◌, length, take, drop, Contains, refl, sym, subst, ◌∙◌, arith}
use Rattle.std.proofs.lemmas.List.{nil_from_length, take-append-drop}
use Rattle.std.proofs.lemmas.List.Elements.{Contains-append_left, Contains-append_right}
use Rattle.tl_hash.specs.Bytes.{Digest}
use Rattle.tl_hash.specs.Split.{IsSplit}
use Rattle.tl_hash.specs.Tree.{tree_of, tree_within, inputs_of, tree_hash, inputs, leaf_input, node_input}
use Rattle.tl_hash.proofs.TreeLemmas.{split_induction, length_first, length_rest, tree_hash-split, tree_hash-one, inputs-split, length-tree_hash}
use Rattle.tl_hash.specs.Collision.{Collides}
use Rattle.tl_hash.proofs.Bytes.{cases_bytes, node_input-injective}

-- some two strings collide
abbrev pub Collision : (List ℕ → List ℕ) → List (List ℕ) → List (List ℕ) → Type 0
Collision H firsts seconds = (x : List ℕ) × (y : List ℕ) × Collides H x y firsts seconds

pub Contains-head : (x : List ℕ) (xs : List (List ℕ)) → Contains (x ∷ xs) x
Contains-head x xs = (0, omega arith, refl)

pub Contains-tail : (y x : List ℕ) (xs : List (List ℕ)) → Contains xs x → Contains (y ∷ xs) x
Contains-tail y x xs (k, within, at) = (suc k, omega (arith, within), at)

-- a collision stays one among more strings
pub Collision-among : (H : Digest) (a b c d : List (List ℕ)) → ((x : List ℕ) → Contains a x → Contains c x) → ((x : List ℕ) → Contains b x → Contains d x)
    → Collision H a b → Collision H c d
Collision-among H a b c d more other (x, y, found) =
    (x, y, record { first = more x found.first; second = other y found.second; differ = found.differ; same_digest = found.same_digest })

-- the inputs of a list: its root's, and those of its two parts
pub inputs-root : (H : Digest) (k : ℕ) (entries : List (List ℕ)) → IsSplit k (length entries)
    → Contains (inputs H entries) (node_input (tree_hash H (take k entries)) (tree_hash H (drop k entries)))
inputs-root H k entries s = rw (inputs-split H k entries s) (Contains-head (node_input (tree_hash H (take k entries)) (tree_hash H (drop k entries))) (inputs H (take k entries) ++ inputs H (drop k entries)))

pub inputs-first : (H : Digest) (k : ℕ) (entries : List (List ℕ)) → IsSplit k (length entries) → (x : List ℕ) → Contains (inputs H (take k entries)) x → Contains (inputs H entries) x
inputs-first H k entries s x found =
    rw (inputs-split H k entries s) (Contains-tail (node_input (tree_hash H (take k entries)) (tree_hash H (drop k entries))) x (inputs H (take k entries) ++ inputs H (drop k entries))
    (Contains-append_left (inputs H (take k entries)) (inputs H (drop k entries)) x found))

pub inputs-rest : (H : Digest) (k : ℕ) (entries : List (List ℕ)) → IsSplit k (length entries) → (x : List ℕ) → Contains (inputs H (drop k entries)) x → Contains (inputs H entries) x
inputs-rest H k entries s x found =
    rw (inputs-split H k entries s) (Contains-tail (node_input (tree_hash H (take k entries)) (tree_hash H (drop k entries))) x (inputs H (take k entries) ++ inputs H (drop k entries))
    (Contains-append_right (inputs H (take k entries)) (inputs H (drop k entries)) x found))

pub inputs-one : (H : Digest) (entry : List ℕ) → Contains (inputs H (entry ∷ [])) (leaf_input entry)
unfolding inputs inputs_of tree_of tree_within
inputs-one H entry = Contains-head (leaf_input entry) []

-- two entries with one leaf hash
pub same_or_collide-one : (H : Digest) (d e : List ℕ) → tree_hash H (d ∷ []) ≡ tree_hash H (e ∷ [])
    → (d ∷ [] ≡ e ∷ []) ⊎ Collision H (inputs H (d ∷ [])) (inputs H (e ∷ []))
same_or_collide-one H d e same =
    elim (cases_bytes d e) as (λ _. (d ∷ [] ≡ e ∷ []) ⊎ Collision H (inputs H (d ∷ [])) (inputs H (e ∷ []))) [
      | inl equal ↦ inl (λ i. equal i ∷ [])
      | inr differ ↦ inr (
        leaf_input d,
        leaf_input e,
        record {
          first = inputs-one H d;
          second = inputs-one H e;
          differ = λ p. differ (cc);
          same_digest = sym (tree_hash-one H d) ∙ same ∙ tree_hash-one H e;
        },
      )
    ]

-- two nodes with one hash: they are over the same hashes, or their inputs collide
pub same_or_collide-node : (H : Digest) → ((message : List ℕ) → length (H message) ≡ 32) → (k : ℕ) (old new : List (List ℕ)) → IsSplit k (length old) → IsSplit k (length new)
    → tree_hash H old ≡ tree_hash H new
    → ((tree_hash H (take k old) ≡ tree_hash H (take k new)) × (tree_hash H (drop k old) ≡ tree_hash H (drop k new))) ⊎ Collision H (inputs H old) (inputs H new)
same_or_collide-node H wide k old new s t same =
    let a : List ℕ = tree_hash H (take k old) in let b : List ℕ = tree_hash H (drop k old) in
    let c : List ℕ = tree_hash H (take k new) in let d : List ℕ = tree_hash H (drop k new) in
    let len : length a ≡ length c = length-tree_hash H wide (take k old) ∙ sym (length-tree_hash H wide (take k new)) in
    elim (cases_bytes (node_input a b) (node_input c d)) as (λ _. ((a ≡ c) × (b ≡ d)) ⊎ Collision H (inputs H old) (inputs H new)) [
      | inl equal ↦ inl (node_input-injective a b c d len equal)
      | inr differ ↦ inr (
        node_input a b,
        node_input c d,
        record {
          first = inputs-root H k old s;
          second = inputs-root H k new t;
          differ = differ;
          same_digest = sym (tree_hash-split H k old s) ∙ same ∙ tree_hash-split H k new t;
        },
      )
    ]

abbrev SameOrCollide : (List ℕ → List ℕ) → List (List ℕ) → Type 0
SameOrCollide H old = (new : List (List ℕ)) → length old ≡ length new → tree_hash H old ≡ tree_hash H new
    → (old ≡ new) ⊎ Collision H (inputs H old) (inputs H new)

same_or_collide-none : (H : Digest) → SameOrCollide H []
same_or_collide-none H new len same = inl (sym (nil_from_length new (sym len)))

same_or_collide-single : (H : Digest) (entry : List ℕ) → SameOrCollide H (entry ∷ [])
same_or_collide-single H entry [] len same = absurd (omega (arith, len))
same_or_collide-single H entry (other ∷ []) len same = same_or_collide-one H entry other same
same_or_collide-single H entry (other ∷ next ∷ rest) len same = absurd (omega (arith, len))

same_or_collide-split : (H : Digest) → ((message : List ℕ) → length (H message) ≡ 32) → (k : ℕ) (old : List (List ℕ)) → IsSplit k (length old)
    → SameOrCollide H (take k old) → SameOrCollide H (drop k old) → SameOrCollide H old
same_or_collide-split H wide k old s first second new len same =
    let t : IsSplit k (length new) = subst (λ (n : ℕ). IsSplit k n) len s in
    let len_first : length (take k old) ≡ length (take k new) = length_first k old s ∙ sym (length_first k new t) in
    let len_rest : length (drop k old) ≡ length (drop k new) = omega (arith, length_rest k old, length_rest k new, len) in
    elim (same_or_collide-node H wide k old new s t same) as (λ _. (old ≡ new) ⊎ Collision H (inputs H old) (inputs H new)) [
      | inr found ↦ inr found
      | inl both ↦
          elim (first (take k new) len_first both.0) as (λ _. (old ≡ new) ⊎ Collision H (inputs H old) (inputs H new)) [
            | inr found ↦ inr (Collision-among H _ _ _ _ (inputs-first H k old s) (inputs-first H k new t) found)
            | inl left ↦
                elim (second (drop k new) len_rest both.1) as (λ _. (old ≡ new) ⊎ Collision H (inputs H old) (inputs H new)) [
                  | inr found ↦ inr (Collision-among H _ _ _ _ (inputs-rest H k old s) (inputs-rest H k new t) found)
                  | inl right ↦ inl (sym (take-append-drop k old) ∙ (λ i. left i ++ right i) ∙ take-append-drop k new)
                ]
          ]
    ]

pub same_or_collide : (H : Digest) → ((message : List ℕ) → length (H message) ≡ 32) → (old : List (List ℕ)) → SameOrCollide H old
same_or_collide H wide old =
    split_induction (SameOrCollide H) (same_or_collide-none H) (same_or_collide-single H) (same_or_collide-split H wide) old
