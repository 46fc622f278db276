-- The text of a proof, a line at a time.
use Rattle.std.proofs.Common.{◌≡◌, ℕ, List, [], ◌∷◌, ◌++◌, sym, ap, ◌∙◌}
use Rattle.std.specs.List.{flat_map}
use Rattle.std.proofs.lemmas.List.{append-nil}
use Rattle.std.proofs.lemmas.List.Concat.{flat_map-append, flat_map-cons}
use Rattle.tl_text.specs.Text.{line}
use Rattle.tl_command.specs.Lines.{lines_text}

-- one line more
line_more : (lines : List (List ℕ)) (next before after : List ℕ) → before ≡ lines_text lines → after ≡ before ++ line next → after ≡ lines_text (lines ++ next ∷ [])
line_more lines next before after so_far added =
    added ∙ ap (λ (t : List ℕ). t ++ line next) so_far
    ∙ sym (flat_map-append line lines (next ∷ []) ∙ ap (λ (t : List ℕ). flat_map line lines ++ t) (flat_map-cons line next [] ∙ append-nil (line next)))

-- five lines, and those after them
pub five_lines : (a b c d e : List ℕ) (rest : List (List ℕ)) (o0 o1 o2 o3 o4 o5 o6 : List ℕ) → o0 ≡ [] → o1 ≡ o0 ++ line a → o2 ≡ o1 ++ line b → o3 ≡ o2 ++ line c → o4 ≡ o3 ++ line d
    → o5 ≡ o4 ++ line e → o6 ≡ o5 ++ lines_text rest → o6 ≡ lines_text (a ∷ b ∷ c ∷ d ∷ e ∷ rest)
five_lines a b c d e rest o0 o1 o2 o3 o4 o5 o6 none first second third fourth fifth last =
    let l1 : o1 ≡ lines_text (a ∷ []) = line_more [] a o0 o1 none first in
    let l2 : o2 ≡ lines_text (a ∷ b ∷ []) = line_more (a ∷ []) b o1 o2 l1 second in
    let l3 : o3 ≡ lines_text (a ∷ b ∷ c ∷ []) = line_more (a ∷ b ∷ []) c o2 o3 l2 third in
    let l4 : o4 ≡ lines_text (a ∷ b ∷ c ∷ d ∷ []) = line_more (a ∷ b ∷ c ∷ []) d o3 o4 l3 fourth in
    let l5 : o5 ≡ lines_text (a ∷ b ∷ c ∷ d ∷ e ∷ []) = line_more (a ∷ b ∷ c ∷ d ∷ []) e o4 o5 l4 fifth in
    last ∙ ap (λ (t : List ℕ). t ++ lines_text rest) l5 ∙ sym (flat_map-append line (a ∷ b ∷ c ∷ d ∷ e ∷ []) rest)
