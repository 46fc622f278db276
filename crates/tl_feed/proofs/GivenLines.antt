-- The lines that were given, one witness more at a time.
use Rattle.std.proofs.Common.{◌≡◌, ◌∙◌, ◌++◌, ◌∷◌, [], ◌+◌, ◌<◌, ℕ, List, Option, Some, None, String, true, false, ap, append-nil, arith, get_or, length, length-append, refl, sym, take, string_bytes}
use Rattle.std.specs.Global.{Global}
use Rattle.std.specs.List.{flat_map}
use Rattle.std.specs.Option.{is_some}
use Rattle.std.specs.Prelude.{option_map}
use Rattle.std.proofs.lemmas.List.{take_more}
use Rattle.std.proofs.lemmas.List.Elements.{filter_map-append}
use Rattle.std.proofs.lemmas.List.Concat.{flat_map-append}
use Rattle.tl_feed.specs.Inner.Tallying.{given, joined}

-- the lines with those of one witness more
given_next : (lines : List (Option (String Global))) (i : ℕ) (line : Option (String Global)) → i < length lines → line ≡ get_or lines i line
    → given (take (i + 1) lines) ≡ given (take i lines) ++ given (line ∷ [])
given_next lines i line within is =
    ap given (take_more lines i line within ∙ ap (λ (one : Option (String Global)). take i lines ++ one ∷ []) (sym is))
    ∙ filter_map-append (λ (one : Option (String Global)). option_map string_bytes one) (take i lines) (line ∷ [])

one_given : (line : Option (String Global)) → is_some line ≡ true → length (given (line ∷ [])) ≡ 1
one_given (Some own) some = refl
one_given None some = absurd (cc)

none_given : (line : Option (String Global)) → is_some line ≡ false → length (given (line ∷ [])) ≡ 0
none_given (Some own) none = absurd (cc)
none_given None none = refl

-- how many lines there are with a witness that gave one
pub counted_more : (lines : List (Option (String Global))) (i : ℕ) (line : Option (String Global)) → i < length lines → line ≡ get_or lines i line
    → is_some line ≡ true → length (given (take (i + 1) lines)) ≡ length (given (take i lines)) + 1
counted_more lines i line within is some =
    let longer : length (given (take (i + 1) lines)) ≡ length (given (take i lines)) + length (given (line ∷ [])) =
    ap (λ (g : List (List ℕ)). length g) (given_next lines i line within is) ∙ length-append (given (take i lines)) (given (line ∷ [])) in
    let one = one_given line some in
    omega (arith, longer, one)

-- how many lines there are with a witness that gave none
pub counted_same : (lines : List (Option (String Global))) (i : ℕ) (line : Option (String Global)) → i < length lines → line ≡ get_or lines i line
    → is_some line ≡ false → length (given (take (i + 1) lines)) ≡ length (given (take i lines))
counted_same lines i line within is none =
    let longer : length (given (take (i + 1) lines)) ≡ length (given (take i lines)) + length (given (line ∷ [])) =
    ap (λ (g : List (List ℕ)). length g) (given_next lines i line within is) ∙ length-append (given (take i lines)) (given (line ∷ [])) in
    let zero = none_given line none in
    omega (arith, longer, zero)

-- the text with one witness more
joined_next : (lines : List (Option (String Global))) (i : ℕ) (line : Option (String Global)) → i < length lines → line ≡ get_or lines i line
    → joined (take (i + 1) lines) ≡ joined (take i lines) ++ joined (line ∷ [])
joined_next lines i line within is =
    ap (λ (g : List (List ℕ)). flat_map (λ (l : List ℕ). l) g) (given_next lines i line within is)
    ∙ flat_map-append (λ (l : List ℕ). l) (given (take i lines)) (given (line ∷ []))

-- the text with a witness that gave a line
pub joined_more : (lines : List (Option (String Global))) (i : ℕ) (line : Option (String Global)) (own : String Global) → i < length lines
    → line ≡ get_or lines i line → line ≡ Some own → joined (take (i + 1) lines) ≡ joined (take i lines) ++ string_bytes own
joined_more lines i line own within is some =
    joined_next lines i line within is
    ∙ (ap (λ (one : Option (String Global)). joined (take i lines) ++ joined (one ∷ [])) some
    ∙ ap (λ (l : List ℕ). joined (take i lines) ++ l) (append-nil (string_bytes own)))

-- the text with a witness that gave none
pub joined_same : (lines : List (Option (String Global))) (i : ℕ) (line : Option (String Global)) → i < length lines → line ≡ get_or lines i line
    → line ≡ None → joined (take (i + 1) lines) ≡ joined (take i lines)
joined_same lines i line within is none =
    joined_next lines i line within is
    ∙ (ap (λ (one : Option (String Global)). joined (take i lines) ++ joined (one ∷ [])) none ∙ append-nil (joined (take i lines)))
