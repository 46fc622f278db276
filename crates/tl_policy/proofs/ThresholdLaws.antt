-- The number that a word gives.
use Rattle.std.proofs.Common.{◌≡◌, ℕ, ◌<◌, ◌^◌, Bool, true, false, List, sym, ◌∙◌, arith}
use Rattle.std.specs.Prelude.{MatchBool, bytes_eq, codes}
use Rattle.std.proofs.lemmas.Fmt.{decimal_injective}
use Rattle.tl_text.specs.Text.{number_text}
use Rattle.tl_policy.specs.PolicyText.{GivesNumber}

one_of : (any all : Bool) (word : List ℕ) (members a b : ℕ) → a < 2 ^ 63 → b < 2 ^ 63
    → MatchBool any (a ≡ 1) (MatchBool all (a ≡ members) (word ≡ number_text a)) → MatchBool any (b ≡ 1) (MatchBool all (b ≡ members) (word ≡ number_text b)) → a ≡ b
one_of true all word members a b small_a small_b x y = x ∙ sym y
one_of false true word members a b small_a small_b x y = x ∙ sym y
one_of false false word members a b small_a small_b x y = decimal_injective a b (omega (arith, small_a)) (omega (arith, small_b)) (sym x ∙ y)

-- it is one
pub number_is_one : (word : List ℕ) (members a b : ℕ) → a < 2 ^ 63 → b < 2 ^ 63 → GivesNumber word members a → GivesNumber word members b → a ≡ b
number_is_one word members a b small_a small_b x y = one_of (bytes_eq word (codes "any")) (bytes_eq word (codes "all")) word members a b small_a small_b x y
