-- Leaf hashes that are checked, four at a time or one.
use Rattle.std.proofs.Common.{◌≡◌, ℕ, zero, suc, ◌+◌, ◌<◌, ◌≤◌, inl, inr, List, [], ◌∷◌, length, map, slice_index_or, sym, ap, subst, ◌∙◌, arith}
use Rattle.std.proofs.lemmas.Bool.{cases_eq, cases_lt}
use Rattle.std.proofs.lemmas.List.{get_or_default, get_or-map}
use Rattle.sha2.specs.Sha256.{sha256}
use Rattle.tl_hash.specs.Bytes.{Bytes}
use Rattle.tl_hash.specs.Tree.{leaf_input}
use Rattle.tl_client.specs.Inner.Leaves.{HaveLeavesBetween}

pub below_four : (P : ℕ → Type 0) → P 0 → P 1 → P 2 → P 3 → (j : ℕ) → j < 4 → P j
below_four P a b c d zero less = a
below_four P a b c d (suc zero) less = b
below_four P a b c d (suc (suc zero)) less = c
below_four P a b c d (suc (suc (suc zero))) less = d
below_four P a b c d (suc (suc (suc (suc j)))) less = absurd (omega (arith, less))

-- the leaf hash of the entry at a place
pub leaf_at : {X : Type 0} (f : X → Bytes) (xs : List X) (place : ℕ) (x : X) (entry hash : Bytes) → place < length xs → x ≡ slice_index_or xs place x → entry ≡ f x → hash ≡ sha256 (0 ∷ entry)
    → hash ≡ sha256 (leaf_input (slice_index_or (map f xs) place []))
leaf_at f xs place x entry hash inside at is made =
    let same : entry ≡ slice_index_or (map f xs) place [] = is ∙ sym (get_or-map f xs place x [] inside ∙ ap f (sym at)) in
    made ∙ ap (λ (e : Bytes). sha256 (leaf_input e)) same

-- a hash of a list
pub hash_at : (hashes : List Bytes) (j : ℕ) (hash is : Bytes) → j < length hashes → hash ≡ slice_index_or hashes j hash → slice_index_or hashes j [] ≡ is → hash ≡ is
hash_at hashes j hash is inside value at = value ∙ sym (get_or_default hashes j [] hash inside) ∙ at

pub leaves_none : (from upto : ℕ) (entries leaves : List Bytes) → upto ≤ from → HaveLeavesBetween sha256 from upto entries leaves
leaves_none from upto entries leaves none = λ i low less. absurd (omega (arith, none, low, less))

-- one more
pub leaves_next : (from next after : ℕ) (entries leaves : List Bytes) → HaveLeavesBetween sha256 from next entries leaves
    → sha256 (leaf_input (slice_index_or entries next [])) ≡ slice_index_or leaves next [] → after ≡ next + 1 → HaveLeavesBetween sha256 from after entries leaves
leaves_next from next after entries leaves before here is =
    λ i low less. elim (cases_eq i next) as (λ _. sha256 (leaf_input (slice_index_or entries i [])) ≡ slice_index_or leaves i []) [
      | inl same ↦ subst (λ (k : ℕ). sha256 (leaf_input (slice_index_or entries k [])) ≡ slice_index_or leaves k []) (sym same) here
      | inr differ ↦ before i low (omega (arith, less, is, differ))
    ]

-- those before a position, and those from there on
pub leaves_join : (from middle upto : ℕ) (entries leaves : List Bytes) → HaveLeavesBetween sha256 from middle entries leaves → HaveLeavesBetween sha256 middle upto entries leaves
    → HaveLeavesBetween sha256 from upto entries leaves
leaves_join from middle upto entries leaves first second =
    λ i low less. elim (cases_lt i middle) as (λ _. sha256 (leaf_input (slice_index_or entries i [])) ≡ slice_index_or leaves i []) [
      | inl below ↦ first i low below
      | inr above ↦ second i above less
    ]
