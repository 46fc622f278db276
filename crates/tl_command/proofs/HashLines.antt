-- Lines, each of which is the spelling of one value.
use Rattle.std.proofs.Common.{◌≡◌, ℕ, ◌+◌, ◌-◌, ◌<◌, ◌≤◌, Bool, true, false, List, [], ◌∷◌, ◌++◌, length, get_or, map, take, drop, refl, sym, ap, ◌∙◌, arith, All}
use Rattle.std.specs.Prelude.{◌≢◌, not, bytes_eq}
use Rattle.std.proofs.lemmas.List.{map_more, map-append, get_or-map, length-map, take_rest}
use Rattle.std.proofs.lemmas.Slice.Eq.{bytes_eq-Decides}

-- one line more
pub one_more : {X : Type 0} (text : X → List ℕ) (spelled : List ℕ → List ℕ) (xs : List X) (i : ℕ) (item : X) (values : List (List ℕ)) (value : List ℕ)
    → i < length xs → item ≡ get_or xs i item → map text (take i xs) ≡ map spelled values → text item ≡ spelled value
    → map text (take (i + 1) xs) ≡ map spelled (values ++ value ∷ [])
one_more text spelled xs i item values value lt is before now =
    let last : text (get_or xs i item) ≡ spelled value = ap text (sym is) ∙ now in
    map_more text xs i item lt
    ∙ ap (λ (ts : List (List ℕ)). ts ++ text (get_or xs i item) ∷ []) before
    ∙ ap (λ (t : List ℕ). map spelled values ++ t ∷ []) last
    ∙ sym (map-append spelled values (value ∷ []))

-- a line that spells nothing
pub none_at : {X : Type 0} (text : X → List ℕ) (spelled : List ℕ → List ℕ) (Fits : List ℕ → Type 0) (xs : List X) (i : ℕ) (item : X)
    → i < length xs → item ≡ get_or xs i item → ((value : List ℕ) → Fits value → text item ≢ spelled value)
    → (values : List (List ℕ)) → All Fits values → map text xs ≢ map spelled values
none_at text spelled Fits xs i item lt is none values fit e =
    let within : i < length values = omega (arith, lt, ap length e, length-map xs text, length-map values spelled) in
    let at : text item ≡ spelled (get_or values i []) =
    ap text is ∙ sym (get_or-map text xs i item [] lt) ∙ ap (λ (ts : List (List ℕ)). get_or ts i []) e ∙ get_or-map spelled values i [] [] within in
    none (get_or values i []) (fit i [] within) at

both : (x y : List ℕ) (xs ys : List (List ℕ)) → x ≡ y → xs ≡ ys → x ∷ xs ≡ y ∷ ys
both x y xs ys first others = ap (λ (z : List ℕ). z ∷ xs) first ∙ ap (λ (zs : List (List ℕ)). y ∷ zs) others

-- the first five lines, and the others
pub five_lines : {X : Type 0} (text : X → List ℕ) (xs : List X) (a b c d e : X) (p q r s t : List ℕ) (rest : List (List ℕ)) → 5 ≤ length xs
    → a ≡ get_or xs 0 a → b ≡ get_or xs 1 b → c ≡ get_or xs 2 c → d ≡ get_or xs 3 d → e ≡ get_or xs 4 e
    → text a ≡ p → text b ≡ q → text c ≡ r → text d ≡ s → text e ≡ t → map text (take (length xs - 5) (drop 5 xs)) ≡ rest
    → map text xs ≡ p ∷ q ∷ r ∷ s ∷ t ∷ rest
five_lines text [] a b c d e p q r s t rest long ia ib ic id ie ta tb tc td te others = absurd (omega arith)
five_lines text (x0 ∷ []) a b c d e p q r s t rest long ia ib ic id ie ta tb tc td te others = absurd (omega arith)
five_lines text (x0 ∷ x1 ∷ []) a b c d e p q r s t rest long ia ib ic id ie ta tb tc td te others = absurd (omega arith)
five_lines text (x0 ∷ x1 ∷ x2 ∷ []) a b c d e p q r s t rest long ia ib ic id ie ta tb tc td te others = absurd (omega arith)
five_lines text (x0 ∷ x1 ∷ x2 ∷ x3 ∷ []) a b c d e p q r s t rest long ia ib ic id ie ta tb tc td te others = absurd (omega arith)
five_lines text (x0 ∷ x1 ∷ x2 ∷ x3 ∷ x4 ∷ more) a b c d e p q r s t rest long ia ib ic id ie ta tb tc td te others =
    let left : map text more ≡ rest = ap (map text) (sym (take_rest (x0 ∷ x1 ∷ x2 ∷ x3 ∷ x4 ∷ more) 5)) ∙ others in
    both (text x0) p _ _ (ap text (sym ia) ∙ ta) (both (text x1) q _ _ (ap text (sym ib) ∙ tb) (both (text x2) r _ _ (ap text (sym ic) ∙ tc)
    (both (text x3) s _ _ (ap text (sym id) ∙ td) (both (text x4) t _ _ (ap text (sym ie) ∙ te) left))))

not_not : (b : Bool) → false ≡ not b → b ≡ true
not_not true e = refl
not_not false e = absurd cc

-- a word that was compared
pub same_word : (xs ys : List ℕ) → false ≡ not (bytes_eq xs ys) → xs ≡ ys
same_word xs ys e = (bytes_eq-Decides xs ys).0 (not_not (bytes_eq xs ys) e)
