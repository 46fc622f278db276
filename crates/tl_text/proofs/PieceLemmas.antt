-- The end of the first line of a text.
use Rattle.std.proofs.Common.{◌≡◌, ℕ, ◌≤◌, List, [], ◌∷◌, ◌++◌, get_or, sym, subst, ◌∙◌, append_assoc, arith, Option, Bor}
use Rattle.std.specs.Prelude.{MatchOption, IsUtf8, Some}
use Rattle.std.specs.Str.{IsCharBoundary}
use Rattle.std.proofs.lemmas.List.Elements.{All-get_or}
use Rattle.std.proofs.lemmas.Str.{IsUtf8-drop}
use Rattle.std.proofs.lemmas.Str.Pattern.{IsSplitOnceResult, split_after}
use Rattle.tl_text.specs.Text.{line, HasNoControl}

-- what stands round the first newline of a text that begins with a line
pub line_parts : (text words rest : List ℕ) (r : Option (Bor (List ℕ) × Bor (List ℕ))) → IsSplitOnceResult 10 text r → HasNoControl words → text ≡ line words ++ rest
    → MatchOption r ⊥ (λ x. (x.0.now ≡ words) × (x.1.now ≡ rest))
line_parts text words rest r split plain e =
    let whole : text ≡ words ++ 10 ∷ rest = e ∙ append_assoc words (10 ∷ []) rest in
    split_after 10 text words rest r split (omega arith) whole (λ i lt is. let visible : 32 ≤ get_or words i 0 = All-get_or (λ b. 32 ≤ b) words i 0 lt plain in absurd (omega (arith, is, visible)))

-- what follows the newline is text
pub rest_utf8 : (text : List ℕ) (words rest : Bor (List ℕ)) → IsUtf8 text → IsSplitOnceResult 10 text (Some (words, rest)) → IsUtf8 rest.now
rest_utf8 text words rest utf8 split =
    let at = split.2.1 in
    subst IsUtf8 (sym split.4) (IsUtf8-drop text split.1 utf8 (subst (IsCharBoundary text) (sym at.ends) at.after))
