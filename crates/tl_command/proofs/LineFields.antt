-- A number and a hash after a word in a line.
use Rattle.std.proofs.Common.{◌≡◌, ℕ, ◌+◌, List, ◌++◌, length, take, drop, true, false, sym, ap, ◌∙◌, arith, Bor, Some, None}
use Rattle.std.specs.Prelude.{◌≢◌, decimal, IsUtf8, MatchOption, Option}
use Rattle.std.specs.Cmp.Lexicographic.{pointwise}
use Rattle.std.proofs.Math.Dec.{eqb}
use Rattle.std.proofs.lemmas.Bool.Decides.{Decides-eqb}
use Rattle.std.proofs.lemmas.List.{append_cancel_left}
use Rattle.std.proofs.lemmas.Slice.Eq.{strip_prefix_is}
use Rattle.std.proofs.lemmas.Fmt.{IsAscii-decimal}
use Rattle.std.proofs.lemmas.Str.{IsUtf8-from_ascii}
use Rattle.base64.proofs.EngineFacts.{IsAscii-encode_of}
use Rattle.base64.specs.Engines.{standard}
use Rattle.tl_text.specs.Text.{number_text, base64_text, IsSize}

pub number_utf8 : (n : ℕ) → IsSize n → IsUtf8 (number_text n)
number_utf8 n small = IsUtf8-from_ascii (decimal n) (IsAscii-decimal n (omega arith))

pub hash_utf8 : (hash : List ℕ) → IsUtf8 (base64_text hash)
hash_utf8 hash = IsUtf8-from_ascii (base64_text hash) (IsAscii-encode_of standard hash)

-- what is read of the text after a word is read of the line
pub after_word : {X : Type 0} (Fits : X → Type 0) (spelled : X → List ℕ) (whole word text : List ℕ) → whole ≡ word ++ text → (r : Option X)
    → MatchOption r ((x : X) → Fits x → text ≢ spelled x) (λ x. Fits x × (text ≡ spelled x))
    → MatchOption r ((x : X) → Fits x → whole ≢ word ++ spelled x) (λ x. Fits x × (whole ≡ word ++ spelled x))
after_word Fits spelled whole word text is None none = λ x fits e. none x fits (append_cancel_left word text (spelled x) (sym is ∙ e))
after_word Fits spelled whole word text is (Some x) found = (found.0, is ∙ ap (λ (t : List ℕ). word ++ t) found.1)

-- what a prefix was stripped of
pub stripped : (whole word : List ℕ) (r : Option (Bor (List ℕ)))
    → MatchOption r (pointwise eqb (take (length word) whole) word ≡ false) (λ x. (pointwise eqb (take (length word) whole) word ≡ true) × (x.now ≡ drop (length word) whole) × (length x.now + length word ≡ length whole))
    → MatchOption r ((rest : List ℕ) → whole ≢ word ++ rest) (λ x. whole ≡ word ++ x.now)
stripped whole word r cut = strip_prefix_is Decides-eqb whole word r cut
