-- Numbers and base64 have no control characters.
use Rattle.std.proofs.Common.{◌≡◌, ℕ, suc, ◌+◌, ◌*◌, ◌/◌, ◌%◌, ◌^◌, ◌<◌, ◌≤◌, true, List, [], ◌∷◌, length, refl, sym, ap, ◌∙◌, arith}
use Rattle.std.specs.Prelude.{decimal, nat_le, replicate, slice_index}
use Rattle.std.specs.List.{list_all}
use Rattle.std.specs.Str.Parse.{AllDigits}
use Rattle.std.proofs.lemmas.Bool.{leb-true}
use Rattle.std.proofs.lemmas.List.Elements.{All-nil, All-cons, All-append, All-replicate}
use Rattle.std.proofs.lemmas.List.Sums.{AllPass-from_list_all}
use Rattle.std.proofs.lemmas.Str.Parse.{digit_from_value}
use Rattle.std.proofs.lemmas.Fmt.{decimal_is_IsNumeral}
use Rattle.base64.specs.Rfc4648.{encode_symbols, padding_len}
use Rattle.base64.specs.GeneralPurpose.{IsBytes, decode_of}
use Rattle.base64.specs.Engines.{standard}
use Rattle.base64.proofs.EngineFacts.{decode_of-encode_of}
use Rattle.tl_text.specs.Text.{base64_text, HasNoControl}

-- the alphabet
abbrev symbols : List ℕ
symbols = standard.encode_table

abbrev IsPlain : ℕ → Type 0
IsPlain byte = 32 ≤ byte

digits_plain : (ds : List ℕ) → AllDigits 10 ds → HasNoControl ds
digits_plain [] each = All-nil IsPlain
digits_plain (d ∷ ds) each = let range = digit_from_value d each.0 in All-cons IsPlain d ds (omega arith) (digits_plain ds each.1)

pub number_plain : (n : ℕ) → n < 2 ^ 64 → HasNoControl (decimal n)
number_plain n small = let numeral = decimal_is_IsNumeral n small in digits_plain (decimal n) numeral.0.1

-- each symbol of the alphabet is printable
symbols_pass : list_all (λ c. nat_le 32 c) symbols ≡ true
symbols_pass = refl

symbol_plain : (i : ℕ) → i < 64 → 32 ≤ slice_index symbols i
symbol_plain i lt = leb-true 32 (slice_index symbols i) (AllPass-from_list_all (λ c. nat_le 32 c) symbols symbols_pass i 0 lt)

one_plain : (i : ℕ) (rest : List ℕ) → i < 64 → HasNoControl rest → HasNoControl (slice_index symbols i ∷ rest)
one_plain i rest lt each = All-cons IsPlain (slice_index symbols i) rest (symbol_plain i lt) each

pair_plain : (i j : ℕ) (rest : List ℕ) → i < 64 → j < 64 → HasNoControl rest → HasNoControl (slice_index symbols i ∷ slice_index symbols j ∷ rest)
pair_plain i j rest lt_i lt_j each = one_plain i (slice_index symbols j ∷ rest) lt_i (one_plain j rest lt_j each)

encoded_plain : (m : List ℕ) → IsBytes m → HasNoControl (encode_symbols symbols m)
unfolding encode_symbols
encoded_plain [] fits = All-nil IsPlain
encoded_plain (a ∷ []) fits =
    let a_fits : a < 256 = fits 0 in
    pair_plain (a / 4) (a % 4 * 16) [] (omega arith) (omega arith) (All-nil IsPlain)
encoded_plain (a ∷ b ∷ []) fits =
    let a_fits : a < 256 = fits 0 in
    let b_fits : b < 256 = fits 1 in
    pair_plain (a / 4) (a % 4 * 16 + b / 16) (slice_index symbols (b % 16 * 4) ∷ []) (omega arith) (omega arith) (one_plain (b % 16 * 4) [] (omega arith) (All-nil IsPlain))
encoded_plain (a ∷ b ∷ c ∷ rest) fits =
    let a_fits : a < 256 = fits 0 in
    let b_fits : b < 256 = fits 1 in
    let c_fits : c < 256 = fits 2 in
    pair_plain (a / 4) (a % 4 * 16 + b / 16) (slice_index symbols (b % 16 * 4 + c / 64) ∷ slice_index symbols (c % 64) ∷ encode_symbols symbols rest) (omega arith) (omega arith) (pair_plain (b % 16 * 4 + c / 64) (c % 64) (encode_symbols symbols rest) (omega arith) (omega arith) (encoded_plain rest (λ i. fits (suc (suc (suc i))))))

pub base64_plain : (m : List ℕ) → IsBytes m → HasNoControl (base64_text m)
base64_plain m fits = All-append IsPlain (encode_symbols symbols m) (replicate (padding_len (length m)) 61) (encoded_plain m fits) (All-replicate IsPlain (padding_len (length m)) 61 (omega arith))

-- bytes have one text
pub base64_once : (a b : List ℕ) → IsBytes a → IsBytes b → base64_text a ≡ base64_text b → a ≡ b
base64_once a b fits_a fits_b e =
    let left = decode_of-encode_of standard a refl fits_a in
    let right = decode_of-encode_of standard b refl fits_b in
    let both = sym left ∙ ap (decode_of standard) e ∙ right in
    cc both
