-- The first entry of an input, by the place of its newline.
use Rattle.std.proofs.Common.{inl, inr, ◌≡◌, ◌≢◌, ℕ, zero, suc, ◌+◌, ◌<◌, ◌≤◌, List, [], ◌∷◌, length, take, drop, get_or, cond, Bool, true, refl, sym, ◌∙◌, ap, arith, eq-eqb, add-one, Some, None, ◌-◌}
use Rattle.std.specs.Prelude.{Option, position, map, nat_lt, vec_items, vec_len, ◌==◌, not}
use Rattle.std.specs.declared.vec.Vec.{Vec}
use Rattle.std.specs.List.{prefix_len, position_or_len, slice_split, onto_first}
use Rattle.std.proofs.lemmas.List.Splits.{slice_split-cons_yes, slice_split-cons_no, length-slice_split}
use Rattle.std.proofs.Math.Seq.{drop-length}
use Rattle.std.proofs.lemmas.List.{take_rest, length-map}
use Rattle.std.proofs.lemmas.Bool.{ne_eqb, eqb-true, cases_eq}
use Rattle.tl_command.specs.Lines.{entries_of, without_empty_last, is_too_long, first_too_long}

-- an empty last piece is dropped wherever the pieces are cut
past_piece : (piece : List ℕ) (pieces : List (List ℕ)) → 0 < length pieces → without_empty_last (piece ∷ pieces) ≡ piece ∷ without_empty_last pieces
past_piece piece [] some = absurd (omega arith)
past_piece [] (next ∷ more) some = refl
past_piece (byte ∷ piece) (next ∷ more) some = refl

within_piece : (byte : ℕ) (pieces : List (List ℕ)) → 0 < length pieces → without_empty_last (onto_first byte pieces) ≡ onto_first byte (without_empty_last pieces)
within_piece byte [] some = absurd (omega arith)
within_piece byte ([] ∷ []) some = refl
within_piece byte ((first ∷ piece) ∷ []) some = refl
within_piece byte ([] ∷ next ∷ more) some = refl
within_piece byte ((first ∷ piece) ∷ next ∷ more) some = refl

abbrev is_newline : ℕ → Bool
is_newline = λ byte. byte == 10

some_piece : (rest : List ℕ) → 0 < length (slice_split is_newline rest)
some_piece rest = omega (arith, length-slice_split is_newline rest)

-- the step at one byte
pub step_newline : (b : ℕ) (rest : List ℕ) → b ≡ 10 → entries_of (b ∷ rest) ≡ [] ∷ entries_of rest
unfolding entries_of
step_newline b rest e = ap without_empty_last (slice_split-cons_yes is_newline b rest (eq-eqb b 10 e)) ∙ past_piece [] (slice_split is_newline rest) (some_piece rest)

pub step_other : (b : ℕ) (rest : List ℕ) → b ≢ 10 → entries_of (b ∷ rest) ≡ onto_first b (entries_of rest)
unfolding entries_of
step_other b rest e = ap without_empty_last (slice_split-cons_no is_newline b rest (ne_eqb b 10 e)) ∙ within_piece b (slice_split is_newline rest) (some_piece rest)

-- up to the first newline
pub entries_at_newline : (xs : List ℕ) (k : ℕ) → k < length xs → get_or xs k 0 ≡ 10 → ((j : ℕ) → j < k → get_or xs j 0 ≢ 10)
    → entries_of xs ≡ take k xs ∷ entries_of (drop (suc k) xs)
entries_at_newline [] k h e n = absurd (omega arith)
entries_at_newline (x ∷ xs) zero h e n = step_newline x xs e
entries_at_newline (x ∷ xs) (suc k) h e n =
    step_other x xs (n 0 (omega arith))
    ∙ ap (λ es. onto_first x es) (entries_at_newline xs k (omega arith) e (λ j p. n (suc j) (omega arith)))

-- with no newline
pub entries_without_newline : (xs : List ℕ) → 0 < length xs → ((j : ℕ) → j < length xs → get_or xs j 0 ≢ 10) → entries_of xs ≡ xs ∷ []
unfolding entries_of
entries_without_newline [] h n = absurd (omega arith)
entries_without_newline (x ∷ []) h n = step_other x [] (n 0 (omega arith))
entries_without_newline (x ∷ y ∷ xs) h n =
    step_other x (y ∷ xs) (n 0 (omega arith))
    ∙ ap (λ es. onto_first x es) (entries_without_newline (y ∷ xs) (omega arith) (λ j p. n (suc j) (omega arith)))

-- an input of no bytes
pub entries_of_nothing : (xs : List ℕ) → (length xs == 0) ≡ true → entries_of xs ≡ []
unfolding entries_of
entries_of_nothing [] e = refl
entries_of_nothing (x ∷ xs) e = let none = eqb-true (length (x ∷ xs)) 0 e in absurd (omega arith)

-- up to the newline that a search found
pub entries_at_found : (xs : List ℕ) (k : ℕ) → k < length xs → (get_or xs k 0 == 10) ≡ true → ((j : ℕ) → 0 ≤ j → j < k → (get_or xs j 0 == 10) ≡ true → ⊥)
    → entries_of xs ≡ take k xs ∷ entries_of (take (length xs - (k + 1)) (drop (k + 1) xs))
entries_at_found xs k h e n =
    let rest : take (length xs - (k + 1)) (drop (k + 1) xs) ≡ drop (suc k) xs = take_rest xs (k + 1) ∙ ap (λ m. drop m xs) (add-one k) in
    entries_at_newline xs k h (eqb-true _ _ e) (λ j p same. n j (omega arith) p (eq-eqb _ _ same))
    ∙ ap (λ r. take k xs ∷ entries_of r) (sym rest)

-- if a search found no newline
pub entries_if_none_found : (xs : List ℕ) → 0 < length xs → ((j : ℕ) → 0 ≤ j → j < length xs → (get_or xs j 0 == 10) ≡ true → ⊥)
    → entries_of xs ≡ xs ∷ entries_of (take (length xs - length xs) (drop (length xs) xs))
unfolding entries_of
entries_if_none_found xs h n =
    entries_without_newline xs h (λ j p same. n j (omega arith) p (eq-eqb _ _ same))
    ∙ ap (λ r. xs ∷ entries_of r) (sym (take_rest xs (length xs) ∙ drop-length xs))

-- a test of the elements, and the same test of what they are seen as
prefix_same : {A B : Type 0} (p : A → Bool) (q : B → Bool) (f : A → B) → ((x : A) → p x ≡ q (f x)) → (xs : List A) → prefix_len p xs ≡ prefix_len q (map f xs)
prefix_same p q f h [] = refl
prefix_same p q f h (x ∷ xs) =
    ap (λ b. cond b (1 + prefix_len p xs) 0) (h x) ∙ ap (λ n. cond (q (f x)) (1 + n) 0) (prefix_same p q f h xs)

-- the first entry that is too long, by the lengths that the vectors keep
pub too_long_by_len : {A : Type 0} (xs : List (Vec ℕ A)) → position (λ v. nat_lt 65535 (vec_len v)) xs ≡ first_too_long (map vec_items xs)
too_long_by_len {A} xs =
    let place : position_or_len (λ (v : Vec ℕ A). nat_lt 65535 (vec_len v)) xs ≡ position_or_len is_too_long (map vec_items xs) =
    prefix_same (λ (v : Vec ℕ A). not (nat_lt 65535 (vec_len v))) (λ e. not (is_too_long e)) vec_items (λ v. ap (λ n. not (nat_lt 65535 n)) (v.ok.0)) xs in
    let size : length xs ≡ length (map vec_items xs) = sym (length-map xs vec_items) in
    let P : ℕ → ℕ → Option ℕ = λ n m. cond (nat_lt n m) (Some n) None in
    ap (λ n. P n (length xs)) place ∙ ap (λ m. P (position_or_len is_too_long (map vec_items xs)) m) size

-- an input has no more entries than bytes
length-onto_first : (byte : ℕ) (pieces : List (List ℕ)) (n : ℕ) → length pieces ≤ n → length (onto_first byte pieces) ≤ suc n
length-onto_first byte [] n few = omega arith
length-onto_first byte (piece ∷ pieces) n few = omega arith

pub length-entries_of : (input : List ℕ) → length (entries_of input) ≤ length input
unfolding entries_of
length-entries_of [] = omega arith
length-entries_of (byte ∷ rest) =
    elim (cases_eq byte 10) as (λ _. length (entries_of (byte ∷ rest)) ≤ length (byte ∷ rest)) [
      | inl same ↦ omega (arith, ap length (step_newline byte rest same), length-entries_of rest)
      | inr other ↦ omega (arith, ap length (step_other byte rest other), length-onto_first byte (entries_of rest) (length rest) (length-entries_of rest))
    ]
