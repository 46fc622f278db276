-- Four entries more.
use Rattle.std.proofs.Common.{◌≡◌, ◌≤◌, List, [], ◌∷◌, ◌++◌, ◌∙◌, get_or, length, take, sym, arith}
use Rattle.std.proofs.lemmas.List.{append_assoc}
use Rattle.tl_hash.specs.Bytes.{Bytes}

-- one after another, or together
pub four-pushed : (entries : List Bytes) (a b c d : Bytes)
    → (((entries ++ a ∷ []) ++ b ∷ []) ++ c ∷ []) ++ d ∷ [] ≡ entries ++ a ∷ b ∷ c ∷ d ∷ []
four-pushed entries a b c d =
    append_assoc ((entries ++ a ∷ []) ++ b ∷ []) (c ∷ []) (d ∷ [])
    ∙ append_assoc (entries ++ a ∷ []) (b ∷ []) (c ∷ d ∷ [])
    ∙ append_assoc entries (a ∷ []) (b ∷ c ∷ d ∷ [])

-- the first four of a list
pub four-front : {A : Type 0} (xs : List A) (a b c d : A) → 4 ≤ length xs
    → a ≡ get_or xs 0 a → b ≡ get_or xs 1 b → c ≡ get_or xs 2 c → d ≡ get_or xs 3 d → take 4 xs ≡ a ∷ b ∷ c ∷ d ∷ []
four-front [] a b c d more first second third fourth = absurd (omega (arith, more))
four-front (w ∷ []) a b c d more first second third fourth = absurd (omega (arith, more))
four-front (w ∷ x ∷ []) a b c d more first second third fourth = absurd (omega (arith, more))
four-front (w ∷ x ∷ y ∷ []) a b c d more first second third fourth = absurd (omega (arith, more))
four-front (w ∷ x ∷ y ∷ z ∷ rest) a b c d more first second third fourth =
    λ i. sym first i ∷ sym second i ∷ sym third i ∷ sym fourth i ∷ []
