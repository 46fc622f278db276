-- Where the first line of bytes ends.
use Rattle.std.proofs.Common.{◌≡◌, ℕ, suc, ◌+◌, ◌-◌, ◌<◌, Bool, List, ◌∷◌, ◌++◌, length, get_or, take, drop, sym, subst, ap, ◌∙◌, cond, arith, Some, None}
use Rattle.std.specs.Prelude.{◌==◌, nat_lt, position, IsUtf8}
use Rattle.std.specs.List.{position_or_len}
use Rattle.std.proofs.Math.ListN.{get_or-append}
use Rattle.std.proofs.Math.Seq.{take-append_seam, get_or-append_seam, drop-cons}
use Rattle.std.proofs.lemmas.Bool.{eq-eqb, ne_eqb, eqb-true, lt-ltb, both_ways}
use Rattle.std.proofs.lemmas.List.{length-append, length-take-le, get_or-take, take-append-drop, take_rest}
use Rattle.std.proofs.lemmas.List.Quantifiers.{position-Some}
use Rattle.std.proofs.lemmas.List.Sums.{position_or_len_is}
use Rattle.tl_witness.specs.ChainFields.{IsWithout, HasNoLine}

abbrev is_newline : ℕ → Bool
is_newline byte = byte == 10

at_seam : (words rest : List ℕ) → IsWithout 10 words → position_or_len is_newline (words ++ 10 ∷ rest) ≡ length words
at_seam words rest plain =
    position_or_len_is is_newline (words ++ 10 ∷ rest) (length words) 0 (omega (arith, length-append words (10 ∷ rest)))
    (λ k lt. ne_eqb (get_or (words ++ 10 ∷ rest) k 0) 10 (λ e. plain k 0 lt (sym (get_or-append words (10 ∷ rest) 0 k lt) ∙ e)))
    (λ lt. eq-eqb (get_or (words ++ 10 ∷ rest) (length words) 0) 10 (get_or-append_seam words 10 rest 0))

-- the first newline stands behind text that has none
first_at : (words rest : List ℕ) → IsWithout 10 words → position is_newline (words ++ 10 ∷ rest) ≡ Some (length words)
first_at words rest plain =
    let size = length (words ++ 10 ∷ rest) in
    ap (λ (n : ℕ). cond (nat_lt n size) (Some n) None) (at_seam words rest plain)
    ∙ ap (λ (b : Bool). cond b (Some (length words)) None) (lt-ltb (length words) size (omega (arith, length-append words (10 ∷ rest))))

pub no_newline : (bytes : List ℕ) → position is_newline bytes ≡ None → HasNoLine bytes
no_newline bytes none = λ words rest plain utf8 e.
    let found : position is_newline bytes ≡ Some (length words) = ap (position is_newline) e ∙ first_at words rest plain in
    let bad : None ≡ Some (length words) = sym none ∙ found in
    absurd cc

pub no_text : (bytes : List ℕ) (end : ℕ) → position is_newline bytes ≡ Some end → ¬ (IsUtf8 (take end bytes)) → HasNoLine bytes
no_text bytes end found bad = λ words rest plain utf8 e.
    let at : position is_newline bytes ≡ Some (length words) = ap (position is_newline) e ∙ first_at words rest plain in
    let both : Some end ≡ Some (length words) = sym found ∙ at in
    let same : end ≡ length words = cc in
    let front : take end bytes ≡ words = ap (λ (n : ℕ). take n bytes) same ∙ ap (take (length words)) e ∙ take-append_seam words (10 ∷ rest) in
    bad (subst IsUtf8 (sym front) utf8)

-- the bytes are cut at their first newline
pub cut_there : (bytes words : List ℕ) (end : ℕ) → position is_newline bytes ≡ Some end → words ≡ take end bytes
    → IsWithout 10 words × (bytes ≡ words ++ 10 ∷ take (length bytes - (end + 1)) (drop (end + 1) bytes))
cut_there bytes words end found front =
    let first = position-Some is_newline bytes end 0 found in
    let size = length-take-le end bytes (omega (arith, first.0)) in
    let next : suc end ≡ end + 1 = omega arith in
    let seam : drop end bytes ≡ 10 ∷ drop (end + 1) bytes =
    drop-cons bytes end 0 first.0 ∙ ap (λ (n : ℕ). get_or bytes end 0 ∷ drop n bytes) next ∙ ap (λ (b : ℕ). b ∷ drop (end + 1) bytes) (eqb-true (get_or bytes end 0) 10 first.1) in (
      λ k d lt e.
          let less : k < end = omega (arith, lt, ap length front, size) in
          let here : get_or bytes k d ≡ 10 = sym (get_or-take end bytes k d less) ∙ ap (λ (t : List ℕ). get_or t k d) (sym front) ∙ e in
          let before = position-Some is_newline bytes end d found in
          both_ways (is_newline (get_or bytes k d)) (before.2 k less) (eq-eqb (get_or bytes k d) 10 here),
      sym (take-append-drop end bytes)
          ∙ ap (λ (t : List ℕ). take end bytes ++ t) (seam ∙ ap (λ (t : List ℕ). 10 ∷ t) (sym (take_rest bytes (end + 1))))
          ∙ ap (λ (t : List ℕ). t ++ 10 ∷ take (length bytes - (end + 1)) (drop (end + 1) bytes)) (sym front),
    )
