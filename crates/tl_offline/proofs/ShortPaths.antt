-- An accepted inclusion proof has no more hashes than the tree has levels.
use Rattle.std.proofs.Common.{◌≡◌, ℕ, zero, suc, ◌-◌, ◌*◌, ◌^◌, ◌<◌, ◌≤◌, List, [], ◌∷◌, length, reverse, Option, Some, None, option_map, refl, sym, subst, ◌∙◌, inl, inr, arith}
use Rattle.std.proofs.Math.Nat.{pow-succ'}
use Rattle.std.proofs.lemmas.Bool.{cases_lt, le-leb}
use Rattle.std.proofs.lemmas.List.{length-reverse}
use Rattle.tl_hash.specs.Bytes.{Bytes, Digest}
use Rattle.tl_hash.specs.Split.{IsSplit, split_point}
use Rattle.tl_hash.specs.Tree.{node_input}
use Rattle.tl_hash.proofs.SplitLemmas.{half_of_larger_power, split_point-splits}
use Rattle.tl_proof.specs.Acceptance.{AcceptsInclusion, root_from_leaf}
use Rattle.tl_proof.proofs.Equations.{root_from_leaf-left, root_from_leaf-right}

-- what is mapped to something is something
some_below : (f : Bytes → Bytes) (o : Option Bytes) (root : Bytes) → option_map f o ≡ Some root → (r : Bytes) × (o ≡ Some r)
some_below f None root is = cc
some_below f (Some r) root is = (r, refl)

none_some : {x : Bytes} → None ≡ Some x → ⊥
none_some is = cc

-- a tree of one leaf has no proof with a hash
no_hash : (H : Digest) (index size : ℕ) (last : Bytes) (others : List Bytes) (leaf root : Bytes) → size ≤ 1 → root_from_leaf H index size (last ∷ others) leaf ≡ Some root → length (last ∷ others) ≤ 0
unfolding root_from_leaf
no_hash H index size last others leaf root small is =
    let none : root_from_leaf H index size (last ∷ others) leaf ≡ None = rw (le-leb size 1 small) refl in
    absurd (none_some (sym none ∙ is))

-- half of a tree with at most twice that many leaves
half_fits : (k size n : ℕ) → IsSplit k size → size ≤ 2 ^ suc n → k ≤ 2 ^ n
half_fits k size n s most =
    let half : 2 * k ≤ 2 ^ suc n = half_of_larger_power k (2 ^ suc n) s.power (suc n, refl) (omega (arith, s.below, most)) in
    omega (arith, half, pow-succ' 2 n)

short_path : (H : Digest) (index size : ℕ) (others : List Bytes) (leaf root : Bytes) (n : ℕ) → size ≤ 2 ^ n → root_from_leaf H index size others leaf ≡ Some root → length others ≤ n
short_path H index size [] leaf root n most is = omega arith
short_path H index size (last ∷ others) leaf root zero most is = no_hash H index size last others leaf root most is
short_path H index size (last ∷ others) leaf root (suc n) most is =
    elim (cases_lt 1 size) as (λ _. length (last ∷ others) ≤ suc n) [
      | inr small ↦ (let none = no_hash H index size last others leaf root small is in omega (arith, none))
      | inl more ↦ (
          let k : ℕ = split_point size in
          let s : IsSplit k size = split_point-splits size more in
          let fits : k ≤ 2 ^ n = half_fits k size n s most in
          elim (cases_lt index k) as (λ _. length (last ∷ others) ≤ suc n) [
            | inl less ↦ (
                let found = some_below (λ r. H (node_input r last)) (root_from_leaf H index k others leaf) root (sym (root_from_leaf-left H k index size last others leaf s less) ∙ is) in
                let below : length others ≤ n = short_path H index k others leaf found.0 n fits found.1 in
                omega (arith, below))
            | inr not_less ↦ (
                let found = some_below (λ r. H (node_input last r)) (root_from_leaf H (index - k) (size - k) others leaf) root (sym (root_from_leaf-right H k index size last others leaf s not_less) ∙ is) in
                let below : length others ≤ n = short_path H (index - k) (size - k) others leaf found.0 n (omega (arith, fits, s.largest)) found.1 in
                omega (arith, below))
          ])
    ]

pub short_proof : (H : Digest) (hashes : List Bytes) (size : ℕ) (root : Bytes) (index : ℕ) (leaf : Bytes)
    → size < 2 ^ 63 → AcceptsInclusion H hashes size root index leaf → (index < 2 ^ 63) × (length hashes ≤ 63)
unfolding AcceptsInclusion
short_proof H hashes size root index leaf small accepted = (
  omega (arith, small, accepted.0),
  subst (λ (n : ℕ). n ≤ 63) (length-reverse hashes) (short_path H index size (reverse hashes) leaf root 63 (omega (arith, small)) accepted.1),
)
