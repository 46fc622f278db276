-- Lines: the end of a line, and that a list of lines is read in one way.
use Rattle.std.proofs.Common.{◌≡◌, ℕ, ◌≤◌, List, [], ◌∷◌, ◌++◌, length, refl, sym, ap, ◌∙◌, arith, All}
use Rattle.std.specs.Prelude.{◌≢◌}
use Rattle.std.specs.List.{flat_map}
use Rattle.std.proofs.lemmas.List.{length-append}
use Rattle.std.proofs.lemmas.List.Elements.{All-head, All-tail}
use Rattle.std.proofs.lemmas.List.Concat.{flat_map-cons}
use Rattle.tl_text.specs.Text.{line, HasNoControl}

-- the first line of a text ends at its first newline
pub one_line : (a b x y : List ℕ) → HasNoControl a → HasNoControl b → line a ++ x ≡ line b ++ y → (a ≡ b) × (x ≡ y)
one_line [] [] x y pa pb e = (refl, cc)
one_line [] (b ∷ bs) x y pa pb e =
    let head : 10 ≡ b = cc in
    absurd (omega (arith, All-head (λ byte. 32 ≤ byte) b bs pb))
one_line (a ∷ rest) [] x y pa pb e =
    let head : a ≡ 10 = cc in
    absurd (omega (arith, All-head (λ byte. 32 ≤ byte) a rest pa))
one_line (a ∷ rest) (b ∷ bs) x y pa pb e =
    let head : a ≡ b = cc in
    let tail : line rest ++ x ≡ line bs ++ y = cc in
    let others = one_line rest bs x y (All-tail (λ byte. 32 ≤ byte) a rest pa) (All-tail (λ byte. 32 ≤ byte) b bs pb) tail in
    (ap (λ (c : ℕ). c ∷ rest) head ∙ ap (λ (cs : List ℕ). b ∷ cs) others.0, others.1)

pub line_not_empty : (text rest : List ℕ) → line text ++ rest ≢ []
line_not_empty text rest e = absurd (omega (arith, ap length e, length-append (line text) rest, length-append text (10 ∷ [])))

-- lines are one list
pub lines_once : (xs ys : List (List ℕ)) → All HasNoControl xs → All HasNoControl ys → flat_map line xs ≡ flat_map line ys → xs ≡ ys
lines_once [] [] px py e = refl
lines_once [] (y ∷ ys) px py e = absurd (line_not_empty y (flat_map line ys) (sym (e ∙ flat_map-cons line y ys)))
lines_once (x ∷ xs) [] px py e = absurd (line_not_empty x (flat_map line xs) (sym (flat_map-cons line x xs) ∙ e))
lines_once (x ∷ xs) (y ∷ ys) px py e =
    let cut = one_line x y (flat_map line xs) (flat_map line ys) (All-head HasNoControl x xs px) (All-head HasNoControl y ys py) (sym (flat_map-cons line x xs) ∙ e ∙ flat_map-cons line y ys) in
    let others = lines_once xs ys (All-tail HasNoControl x xs px) (All-tail HasNoControl y ys py) cut.1 in
    ap (λ (z : List ℕ). z ∷ xs) cut.0 ∙ ap (λ (zs : List (List ℕ)). y ∷ zs) others
