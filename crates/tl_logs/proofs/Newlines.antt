-- Where the first line of bytes ends.
use Rattle.std.proofs.Common.{◌≡◌, ℕ, suc, ◌+◌, ◌-◌, ◌<◌, ◌≤◌, inl, inr, subst, Bool, List, [], ◌∷◌, ◌++◌, length, get_or, take, drop, sym, ap, ◌∙◌, cond, true, false, refl, arith, Some, None}
use Rattle.std.specs.Prelude.{◌==◌, nat_lt, position}
use Rattle.std.specs.List.{after_first, before_first, position_or_len}
use Rattle.std.proofs.Math.Seq.{drop-cons}
use Rattle.std.proofs.lemmas.Bool.{eq-eqb, eqb-true, ltb-false, both_ways}
use Rattle.std.proofs.lemmas.List.{length-take-le, get_or-take, take-append-drop, take_rest, take_all, drop_all}
use Rattle.std.proofs.lemmas.List.Quantifiers.{position-Some}
use Rattle.std.proofs.lemmas.List.Sums.{fails_before_first}
use Rattle.tl_logs.specs.LogsFile.{IsInOneLine}
use Rattle.tl_logs.specs.Inner.Lines.{CutsLine}

abbrev pub is_newline : ℕ → Bool
is_newline byte = byte == 10

-- the bytes are cut at their first newline
pub cut_there : (bytes words : List ℕ) (end : ℕ) → position is_newline bytes ≡ Some end → words ≡ take end bytes
    → IsInOneLine words × (bytes ≡ words ++ 10 ∷ take (length bytes - (end + 1)) (drop (end + 1) bytes))
cut_there bytes words end found front =
    let first = position-Some is_newline bytes end 0 found in
    let size = length-take-le end bytes (omega (arith, first.0)) in
    let next : suc end ≡ end + 1 = omega arith in
    let seam : drop end bytes ≡ 10 ∷ drop (end + 1) bytes =
    drop-cons bytes end 0 first.0 ∙ ap (λ (n : ℕ). get_or bytes end 0 ∷ drop n bytes) next ∙ ap (λ (b : ℕ). b ∷ drop (end + 1) bytes) (eqb-true (get_or bytes end 0) 10 first.1) in (
      λ k d lt e.
          let less : k < end = omega (arith, lt, ap length front, size) in
          let here : get_or bytes k d ≡ 10 = sym (get_or-take end bytes k d less) ∙ ap (λ (t : List ℕ). get_or t k d) (sym front) ∙ e in
          let before = position-Some is_newline bytes end d found in
          both_ways (is_newline (get_or bytes k d)) (before.2 k less) (eq-eqb (get_or bytes k d) 10 here),
      sym (take-append-drop end bytes)
          ∙ ap (λ (t : List ℕ). take end bytes ++ t) (seam ∙ ap (λ (t : List ℕ). 10 ∷ t) (sym (take_rest bytes (end + 1))))
          ∙ ap (λ (t : List ℕ). t ++ 10 ∷ take (length bytes - (end + 1)) (drop (end + 1) bytes)) (sym front),
    )

-- there is none
pub no_newline : (bytes : List ℕ) → None ≡ position is_newline bytes → IsInOneLine bytes
no_newline bytes none = go (nat_lt (position_or_len is_newline bytes) (length bytes)) refl
  where
    go : (b : Bool) → nat_lt (position_or_len is_newline bytes) (length bytes) ≡ b → IsInOneLine bytes
    go true e =
        let bad : None ≡ Some (position_or_len is_newline bytes) = none ∙ ap (λ (c : Bool). cond c (Some (position_or_len is_newline bytes)) None) e in
        absurd cc
    go false e = λ k d lt is.
        both_ways (is_newline (get_or bytes k d)) (fails_before_first is_newline bytes k d (omega (arith, lt, ltb-false (position_or_len is_newline bytes) (length bytes) e))) (eq-eqb (get_or bytes k d) 10 is)

-- nothing is left behind the last byte
pub nothing_left : (bytes : List ℕ) (n : ℕ) → n ≡ length bytes → take (n - n) (drop n bytes) ≡ []
nothing_left bytes n whole = ap (λ (m : ℕ). take m (drop n bytes)) (none n)
  where
    none : (m : ℕ) → m - m ≡ 0
    none m = omega arith

-- the bytes are cut after their first line
pub line_cut : (bytes words rest : List ℕ) → words ≡ before_first is_newline bytes → rest ≡ after_first is_newline bytes → CutsLine bytes words rest
line_cut bytes words rest before behind = go (nat_lt (position_or_len is_newline bytes) (length bytes)) refl
  where
    end : ℕ
    end = position_or_len is_newline bytes

    go : (b : Bool) → nat_lt (position_or_len is_newline bytes) (length bytes) ≡ b → CutsLine bytes words rest
    go true e =
        let cut = cut_there bytes words end (ap (λ (c : Bool). cond c (Some end) None) e) before in
        (cut.0, inl (cut.1 ∙ ap (λ (t : List ℕ). words ++ 10 ∷ t) (take_rest bytes (end + 1) ∙ sym behind)))
    go false e =
        let past : length bytes ≤ end = ltb-false end (length bytes) e in
        let whole : words ≡ bytes = before ∙ take_all end bytes past in (
          subst IsInOneLine (sym whole) (no_newline bytes (sym (ap (λ (c : Bool). cond c (Some end) None) e))),
          inr (sym whole, behind ∙ drop_all (end + 1) bytes (omega (arith, past))),
        )
