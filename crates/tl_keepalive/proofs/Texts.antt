-- Taking a text out of bytes.
use Rattle.std.proofs.Common.{◌≡◌, ℕ, ◌+◌, ◌-◌, ◌≤◌, ◌<◌, suc, true, false, List, [], ◌∷◌, ◌++◌, length, take, drop, refl, sym, ap, ◌∙◌, append_assoc, append-nil, nat_eq, arith}
use Rattle.std.specs.List.{starts_with}
use Rattle.std.specs.Prelude.{slice_index}
use Rattle.std.proofs.lemmas.List.{take-append-drop, drop-drop, drop_all, length-drop}
use Rattle.std.proofs.Math.Seq.{drop-cons, take-suc}
use Rattle.tl_keepalive.specs.KeepAlive.{without}

-- the text doesn't stand at the front
passed : (text bytes : List ℕ) (b : ℕ) → starts_with nat_eq (b ∷ bytes) text ≡ false → without text (b ∷ bytes) ≡ b ∷ without text bytes
unfolding without
passed text bytes b other = rw other refl

-- the text stands at the front
found : (text bytes : List ℕ) (b : ℕ) → starts_with nat_eq (b ∷ bytes) text ≡ true → without text (b ∷ bytes) ≡ drop (length text) (b ∷ bytes)
unfolding without
found text bytes b same = rw same refl

module _ (text bytes : List ℕ) (at : ℕ) (inside : at < length bytes) (looked : without text bytes ≡ take at bytes ++ without text (drop at bytes)) where
  abbrev b : ℕ
  b = slice_index bytes at

  rest : drop at bytes ≡ b ∷ drop (suc at) bytes
  rest = drop-cons bytes at 0 inside

  -- one byte on
  pub on : starts_with nat_eq (drop at bytes) text ≡ false → without text bytes ≡ take (at + 1) bytes ++ without text (drop (at + 1) bytes)
  on other =
      let next = passed text (drop (suc at) bytes) b (ap (λ (l : List ℕ). starts_with nat_eq l text) (sym rest) ∙ other) in
      let front : take (suc at) bytes ≡ take at bytes ++ b ∷ [] = take-suc bytes at 0 inside in
      let one : at + 1 ≡ suc at = omega arith in
      rw one (looked ∙ (ap (λ (l : List ℕ). take at bytes ++ without text l) rest
      ∙ (ap (λ (l : List ℕ). take at bytes ++ l) next
      ∙ (sym (append_assoc (take at bytes) (b ∷ []) (without text (drop (suc at) bytes)))
      ∙ ap (λ (l : List ℕ). l ++ without text (drop (suc at) bytes)) (sym front)))))

  -- here it is
  pub out : length text ≤ length (drop at bytes) → starts_with nat_eq (drop at bytes) text ≡ true
      → (at + length text ≤ length bytes) × (without text bytes ≡ take at bytes ++ drop (at + length text) bytes)
  out fits same =
      let here = found text (drop (suc at) bytes) b (ap (λ (l : List ℕ). starts_with nat_eq l text) (sym rest) ∙ same) in
      let left : length (drop at bytes) ≡ length bytes - at = length-drop at bytes in (
        omega (arith, fits, left, inside),
        looked ∙ (ap (λ (l : List ℕ). take at bytes ++ without text l) rest
            ∙ ap (λ (l : List ℕ). take at bytes ++ l) (here ∙ (ap (drop (length text)) (sym rest) ∙ drop-drop (length text) at bytes))),
      )

-- it stands nowhere
pub nowhere : (text bytes : List ℕ) (at : ℕ) → length bytes ≤ at → without text bytes ≡ take at bytes ++ without text (drop at bytes) → without text bytes ≡ bytes
unfolding without
nowhere text bytes at far looked =
    let none : drop at bytes ≡ [] = drop_all at bytes far in
    let all : take at bytes ≡ bytes = sym (append-nil (take at bytes)) ∙ (ap (λ (l : List ℕ). take at bytes ++ l) (sym none) ∙ take-append-drop at bytes) in
    looked ∙ (ap (λ (l : List ℕ). take at bytes ++ without text l) none ∙ (append-nil (take at bytes) ∙ all))
