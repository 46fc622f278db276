-- Numbers and hashes in base64 have no space, and a field ends at the first space.
use Rattle.std.proofs.Common.{◌≡◌, ◌≢◌, ℕ, suc, ◌+◌, ◌*◌, ◌/◌, ◌%◌, ◌<◌, true, List, [], ◌∷◌, ◌++◌, length, refl, sym, ap, ◌∙◌, arith, All}
use Rattle.std.specs.Prelude.{decimal, nat_lt, replicate, slice_index}
use Rattle.std.specs.List.{list_all}
use Rattle.std.specs.Str.Parse.{AllDigits}
use Rattle.std.proofs.lemmas.Bool.{ltb-true}
use Rattle.std.proofs.lemmas.List.Elements.{All-nil, All-cons, All-head, All-tail, All-append, All-replicate}
use Rattle.std.proofs.lemmas.List.Sums.{AllPass-from_list_all}
use Rattle.std.proofs.lemmas.Str.Parse.{digit_from_value}
use Rattle.std.proofs.lemmas.Fmt.{decimal_is_IsNumeral}
use Rattle.base64.specs.Rfc4648.{encode_symbols, padding_len}
use Rattle.base64.specs.GeneralPurpose.{IsBytes}
use Rattle.base64.specs.Engines.{standard}
use Rattle.tl_text.specs.Text.{number_text, base64_text, IsSize}
use Rattle.tl_witness.specs.ChainFields.{IsWithout}

abbrev symbols : List ℕ
symbols = standard.encode_table

-- a byte of a printable character that is no space
abbrev IsVisible : ℕ → Type 0
IsVisible byte = 32 < byte

-- such text has no space and no newline
pub without_space : (text : List ℕ) → All IsVisible text → IsWithout 32 text
without_space text each = λ i d lt e. let visible = each i d lt in absurd (omega (arith, e, visible))

pub without_newline : (text : List ℕ) → All IsVisible text → IsWithout 10 text
without_newline text each = λ i d lt e. let visible = each i d lt in absurd (omega (arith, e, visible))

digits_visible : (ds : List ℕ) → AllDigits 10 ds → All IsVisible ds
digits_visible [] each = All-nil IsVisible
digits_visible (d ∷ ds) each = let range = digit_from_value d each.0 in All-cons IsVisible d ds (omega arith) (digits_visible ds each.1)

pub number_visible : (n : ℕ) → IsSize n → All IsVisible (number_text n)
number_visible n small = let numeral = decimal_is_IsNumeral n (omega arith) in digits_visible (decimal n) numeral.0.1

-- each symbol of the alphabet is printable
symbols_pass : list_all (λ c. nat_lt 32 c) symbols ≡ true
symbols_pass = refl

symbol_visible : (i : ℕ) → i < 64 → 32 < slice_index symbols i
symbol_visible i lt = ltb-true 32 (slice_index symbols i) (AllPass-from_list_all (λ c. nat_lt 32 c) symbols symbols_pass i 0 lt)

one_visible : (i : ℕ) (rest : List ℕ) → i < 64 → All IsVisible rest → All IsVisible (slice_index symbols i ∷ rest)
one_visible i rest lt each = All-cons IsVisible (slice_index symbols i) rest (symbol_visible i lt) each

pair_visible : (i j : ℕ) (rest : List ℕ) → i < 64 → j < 64 → All IsVisible rest → All IsVisible (slice_index symbols i ∷ slice_index symbols j ∷ rest)
pair_visible i j rest lt_i lt_j each = one_visible i (slice_index symbols j ∷ rest) lt_i (one_visible j rest lt_j each)

encoded_visible : (m : List ℕ) → IsBytes m → All IsVisible (encode_symbols symbols m)
unfolding encode_symbols
encoded_visible [] fits = All-nil IsVisible
encoded_visible (a ∷ []) fits =
    let a_fits : a < 256 = fits 0 in
    pair_visible (a / 4) (a % 4 * 16) [] (omega arith) (omega arith) (All-nil IsVisible)
encoded_visible (a ∷ b ∷ []) fits =
    let a_fits : a < 256 = fits 0 in
    let b_fits : b < 256 = fits 1 in
    pair_visible (a / 4) (a % 4 * 16 + b / 16) (slice_index symbols (b % 16 * 4) ∷ []) (omega arith) (omega arith) (one_visible (b % 16 * 4) [] (omega arith) (All-nil IsVisible))
encoded_visible (a ∷ b ∷ c ∷ rest) fits =
    let a_fits : a < 256 = fits 0 in
    let b_fits : b < 256 = fits 1 in
    let c_fits : c < 256 = fits 2 in
    pair_visible (a / 4) (a % 4 * 16 + b / 16) (slice_index symbols (b % 16 * 4 + c / 64) ∷ slice_index symbols (c % 64) ∷ encode_symbols symbols rest) (omega arith) (omega arith)
    (pair_visible (b % 16 * 4 + c / 64) (c % 64) (encode_symbols symbols rest) (omega arith) (omega arith) (encoded_visible rest (λ i. fits (suc (suc (suc i))))))

pub base64_visible : (m : List ℕ) → IsBytes m → All IsVisible (base64_text m)
base64_visible m fits =
    All-append IsVisible (encode_symbols symbols m) (replicate (padding_len (length m)) 61) (encoded_visible m fits) (All-replicate IsVisible (padding_len (length m)) 61 (omega arith))

-- a text ends at the first mark after it
pub one_end : (mark : ℕ) (a b x y : List ℕ) → IsWithout mark a → IsWithout mark b → a ++ mark ∷ x ≡ b ++ mark ∷ y → (a ≡ b) × (x ≡ y)
one_end mark [] [] x y pa pb e = (refl, cc)
one_end mark [] (b ∷ bs) x y pa pb e = let head : mark ≡ b = cc in absurd (All-head (λ c. c ≢ mark) b bs pb (sym head))
one_end mark (a ∷ rest) [] x y pa pb e = let head : a ≡ mark = cc in absurd (All-head (λ c. c ≢ mark) a rest pa head)
one_end mark (a ∷ rest) (b ∷ bs) x y pa pb e =
    let head : a ≡ b = cc in
    let tail : rest ++ mark ∷ x ≡ bs ++ mark ∷ y = cc in
    let others = one_end mark rest bs x y (All-tail (λ c. c ≢ mark) a rest pa) (All-tail (λ c. c ≢ mark) b bs pb) tail in
    (ap (λ (c : ℕ). c ∷ rest) head ∙ ap (λ (cs : List ℕ). b ∷ cs) others.0, others.1)
