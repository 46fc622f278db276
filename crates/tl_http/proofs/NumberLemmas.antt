-- Numbers, one digit after another.
use Rattle.std.proofs.Common.{◌≡◌, ℕ, ◌+◌, ◌-◌, ◌*◌, ◌<◌, ◌≤◌, List, [], ◌∷◌, ◌++◌, take, length, min, zero, suc, slice_index_or, ap, subst, sym, ◌∙◌, refl, arith, All, le-ltb, lt-ltb}
use Rattle.std.specs.Char.{digit_value}
use Rattle.std.specs.Str.Parse.{digits_value, digits_value_after}
use Rattle.std.proofs.lemmas.List.Elements.{All-append}

-- the first bytes, and one more
take_with : (xs : List ℕ) (i d : ℕ) → i < length xs → take (suc i) xs ≡ take i xs ++ slice_index_or xs i d ∷ []
take_with [] i d within = absurd (omega arith)
take_with (x ∷ xs) zero d within = refl
take_with (x ∷ xs) (suc i) d within = ap (λ (l : List ℕ). x ∷ l) (take_with xs i d (omega arith))

digit_after : (n c : ℕ) (xs : List ℕ) → digits_value_after 10 n (xs ++ c ∷ []) ≡ digits_value_after 10 n xs * 10 + digit_value c
digit_after n c [] = refl
digit_after n c (x ∷ xs) = digit_after (n * 10 + digit_value x) c xs

-- one digit more of a number that stops growing at 2^64 - 1
pub digit_more : (text : List ℕ) (i d n tens now : ℕ) → i < length text → n ≡ min (digits_value 10 (take i text)) 18446744073709551615
    → tens ≡ min (n * 10) 18446744073709551615 → now ≡ min (tens + (slice_index_or text i d - 48)) 18446744073709551615
    → digit_value (slice_index_or text i d) ≡ slice_index_or text i d - 48
    → now ≡ min (digits_value 10 (take (i + 1) text)) 18446744073709551615
digit_more text i d n tens now within before shifted added digit =
    let next : i + 1 ≡ suc i = omega arith in
    let whole : digits_value 10 (take (i + 1) text) ≡ digits_value 10 (take i text) * 10 + (slice_index_or text i d - 48) =
    ap (λ (m : ℕ). digits_value 10 (take m text)) next
    ∙ (ap (λ (l : List ℕ). digits_value 10 l) (take_with text i d within)
    ∙ (digit_after 0 (slice_index_or text i d) (take i text) ∙ ap (λ (m : ℕ). digits_value 10 (take i text) * 10 + m) digit)) in
    omega (arith, whole, before, shifted, added)

-- one element more passes
pub passes_more : (P : ℕ → Type 0) (xs : List ℕ) (i d : ℕ) → i < length xs → All P (take i xs) → P (slice_index_or xs i d) → All P (take (i + 1) xs)
passes_more P xs i d within before one =
    let next : suc i ≡ i + 1 = omega arith in
    let last : All P (slice_index_or xs i d ∷ []) =
    λ k e short. let first : 0 ≡ k = omega arith in subst (λ (m : ℕ). P (slice_index_or (slice_index_or xs i d ∷ []) m e)) first one in
    subst (λ (m : ℕ). All P (take m xs)) next
    (subst (λ (l : List ℕ). All P l) (sym (take_with xs i d within)) (All-append P (take i xs) (slice_index_or xs i d ∷ []) before last))

-- what a digit writes
pub digit_is : (b : ℕ) → 48 ≤ b → b ≤ 57 → digit_value b ≡ b - 48
digit_is b low high = rw (le-ltb b 48 low, lt-ltb b 58 (omega arith)) refl
