-- Texts that are cut into parts, and the words of a line.
use Rattle.std.proofs.Common.{◌≡◌, ℕ, ◌+◌, ◌<◌, ◌≤◌, Bool, List, [], ◌∷◌, length, take, drop, refl, sym, ap, ◌∙◌, cond, true, false, arith, Some, None, inl, inr, get_or}
use Rattle.std.specs.Prelude.{◌==◌, IsUtf8, nat_lt, position, filter}
use Rattle.std.specs.List.{position_or_len, before_first, after_first, slice_split}
use Rattle.std.proofs.lemmas.List.Splits.{slice_split_first, slice_split_none}
use Rattle.std.proofs.lemmas.List.Sums.{fails_before_first}
use Rattle.std.proofs.lemmas.List.Quantifiers.{position-Some}
use Rattle.std.proofs.lemmas.Bool.{eqb-true, ltb-true, ltb-false, lt-ltb, le-ltb, or_cases}
use Rattle.tl_policy.specs.PolicyText.{is_blank, words_of}
use Rattle.tl_policy.specs.Inner.Cutting.{CutsFirst}

-- ---- one part

-- a text that is cut at the first byte that passes
pub cut_first : (p : ℕ → Bool) (text first rest : List ℕ) → position_or_len p text < length text → first ≡ before_first p text → rest ≡ after_first p text → CutsFirst p text first rest
cut_first p text first rest less front back =
    inl
    (slice_split_first p text 0 less
    ∙ ap (λ (t : List ℕ). t ∷ slice_split p (after_first p text)) (sym front)
    ∙ ap (λ (t : List ℕ). first ∷ slice_split p t) (sym back))

-- one with no such byte
pub not_cut : (p : ℕ → Bool) (text : List ℕ) → length text ≤ position_or_len p text → CutsFirst p text text []
not_cut p text far = inr (slice_split_none p text (λ k d less. fails_before_first p text k d (omega (arith, less, far))), refl)

-- the place that is found is the first one
pub found_place : (p : ℕ → Bool) (text : List ℕ) (end : ℕ) → position p text ≡ Some end → (position_or_len p text < length text) × (position_or_len p text ≡ end)
found_place p text end found = go (nat_lt (position_or_len p text) (length text)) refl
  where
    go : (b : Bool) → nat_lt (position_or_len p text) (length text) ≡ b → (position_or_len p text < length text) × (position_or_len p text ≡ end)
    go true e =
        let first : Some (position_or_len p text) ≡ Some end = sym (ap (λ (c : Bool). cond c (Some (position_or_len p text)) None) e) ∙ found in
        (ltb-true (position_or_len p text) (length text) e, cc)
    go false e = absurd (let none : None ≡ Some end = sym (ap (λ (c : Bool). cond c (Some (position_or_len p text)) None) e) ∙ found in cc)

pub no_place : (p : ℕ → Bool) (text : List ℕ) → position p text ≡ None → length text ≤ position_or_len p text
no_place p text none = go (nat_lt (position_or_len p text) (length text)) refl
  where
    go : (b : Bool) → nat_lt (position_or_len p text) (length text) ≡ b → length text ≤ position_or_len p text
    go true e = absurd (let some : Some (position_or_len p text) ≡ None = sym (ap (λ (c : Bool). cond c (Some (position_or_len p text)) None) e) ∙ none in cc)
    go false e = ltb-false (position_or_len p text) (length text) e

-- a text that is cut where a blank is found
pub cut_found : (text first rest : List ℕ) (end : ℕ) → position is_blank text ≡ Some end → first ≡ take end text → rest ≡ drop (end + 1) text → CutsFirst is_blank text first rest
cut_found text first rest end found front back =
    let place = found_place is_blank text end found in
    cut_first is_blank text first rest place.0 (front ∙ ap (λ (n : ℕ). take n text) (sym place.1)) (back ∙ ap (λ (n : ℕ). drop (n + 1) text) (sym place.1))

-- a blank is an ASCII byte
pub blank_small : (byte : ℕ) → is_blank byte ≡ true → byte < 128
blank_small byte is = elim (or_cases (byte == 32) (byte == 9) is) [
  | inl space ↦ omega (arith, eqb-true byte 32 space)
  | inr tab ↦ omega (arith, eqb-true byte 9 tab)
]

pub blank_at : (text : List ℕ) (end : ℕ) → position is_blank text ≡ Some end → (end < length text) × (get_or text end 0 < 128)
blank_at text end found =
    let first = position-Some is_blank text end 0 found in
    (first.0, blank_small (get_or text end 0) first.1)

-- ---- words

-- the words of a text, by those of what follows its first part
words_cut : (text first rest : List ℕ) → CutsFirst is_blank text first rest → words_of text ≡ cond (nat_lt 0 (length first)) (first ∷ words_of rest) (words_of rest)
words_cut text first rest (inl e) = ap (λ (parts : List (List ℕ)). filter (λ word. nat_lt 0 (length word)) parts) e
words_cut text first rest (inr (e, none)) =
    ap (λ (parts : List (List ℕ)). filter (λ word. nat_lt 0 (length word)) parts) e
    ∙ ap (λ (t : List ℕ). cond (nat_lt 0 (length first)) (first ∷ words_of t) (words_of t)) (sym none)

-- what is left of a line has its words
pub record HasWords (line left : List ℕ) : Type 0 where
  pub same : words_of line ≡ words_of left
  pub few : length left ≤ length line
  pub utf8 : IsUtf8 left

pub whole_line : (line : List ℕ) → IsUtf8 line → HasWords line line
whole_line line utf8 = record { same = refl; few = omega arith; utf8 = utf8 }

-- a part that is a word
pub word_found : (line left word rest : List ℕ) → HasWords line left → CutsFirst is_blank left word rest → 0 < length word → words_of line ≡ word ∷ words_of rest
word_found line left word rest has cut some =
    has.same ∙ words_cut left word rest cut ∙ ap (λ (b : Bool). cond b (word ∷ words_of rest) (words_of rest)) (lt-ltb 0 (length word) some)

-- and one that is none
pub word_missed : (line left word rest : List ℕ) → HasWords line left → CutsFirst is_blank left word rest → length word ≡ 0 → length rest < length left → IsUtf8 rest → HasWords line rest
word_missed line left word rest has cut none shorter utf8 = record {
  same = has.same ∙ words_cut left word rest cut ∙ ap (λ (b : Bool). cond b (word ∷ words_of rest) (words_of rest)) (le-ltb 0 (length word) (omega (arith, none)));
  few = omega (arith, has.few, shorter);
  utf8 = utf8;
}

pub no_word : (line left : List ℕ) → HasWords line left → length left ≡ 0 → words_of line ≡ []
no_word line [] has none = has.same
no_word line (b ∷ left) has none = absurd (omega (arith, none))
