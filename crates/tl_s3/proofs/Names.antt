-- The order of names by their characters is std's order of texts.
use Rattle.std.proofs.Common.{◌≡◌, ℕ, List, [], ◌∷◌, refl, arith}
use Rattle.std.specs.Ordering.{is_lt, nat_cmp}
use Rattle.std.specs.Cmp.Lexicographic.{slice_cmp}
use Rattle.std.proofs.lemmas.Bool.Decides.{nat_tests}
use Rattle.tl_s3.specs.Canonical.{comes_before}

pub before_is : (a b : List ℕ) → is_lt (slice_cmp nat_cmp a b) ≡ comes_before a b
before_is [] [] = refl
before_is [] (y ∷ b) = refl
before_is (x ∷ a) [] = refl
before_is (x ∷ a) (y ∷ b) = let below = before_is a b in grind (arith, nat_tests)
