-- Entries that are listed are read back in one way.
use Rattle.std.proofs.Common.{◌≡◌, ℕ, ◌≤◌, List, [], ◌∷◌, ◌++◌, Bool, true, false, length, take, drop, refl, sym, ap, ◌∙◌, arith, All}
use Rattle.std.specs.Prelude.{◌≢◌, ◌==◌}
use Rattle.std.specs.List.{list_any}
use Rattle.std.proofs.Math.Seq.{drop-append_seam, take-append_seam}
use Rattle.std.proofs.lemmas.Bool.{both_ways, eq-eqb, or_parts}
use Rattle.std.proofs.lemmas.Fmt.{decimal_injective}
use Rattle.std.proofs.lemmas.List.{append_assoc}
use Rattle.std.proofs.lemmas.List.Concat.{flat_map-cons}
use Rattle.std.proofs.lemmas.List.Elements.{All-cons, All-head, All-nil, All-tail}
use Rattle.tl_hash.specs.Bytes.{Bytes}
use Rattle.tl_text.specs.Text.{HasNoControl, line, number_text}
use Rattle.tl_text.proofs.PlainText.{number_plain}
use Rattle.tl_tile.specs.Bundle.{AreShortEntries, IsShortEntry}
use Rattle.tl_fetch.specs.Listed.{begins_with_backslash, listed, listed_text, needs_length}

-- ---- lines

abbrev HasNoNewline : Bytes → Type 0
HasNoNewline text = All (λ byte. byte ≢ 10) text

-- the first line of a text ends at its first newline
one_line : (a b x y : Bytes) → HasNoNewline a → HasNoNewline b → line a ++ x ≡ line b ++ y → (a ≡ b) × (x ≡ y)
one_line [] [] x y pa pb e = (refl, cc)
one_line [] (b ∷ bs) x y pa pb e =
    let head : 10 ≡ b = cc in
    absurd (All-head (λ byte. byte ≢ 10) b bs pb (sym head))
one_line (a ∷ rest) [] x y pa pb e =
    let head : a ≡ 10 = cc in
    absurd (All-head (λ byte. byte ≢ 10) a rest pa head)
one_line (a ∷ rest) (b ∷ bs) x y pa pb e =
    let head : a ≡ b = cc in
    let tail : line rest ++ x ≡ line bs ++ y = cc in
    let others = one_line rest bs x y (All-tail (λ byte. byte ≢ 10) a rest pa) (All-tail (λ byte. byte ≢ 10) b bs pb) tail in
    (ap (λ (c : ℕ). c ∷ rest) head ∙ ap (λ (cs : Bytes). b ∷ cs) others.0, others.1)

-- two texts of one length, whatever follows
one_front : (a b x y : Bytes) → length a ≡ length b → a ++ x ≡ b ++ y → (a ≡ b) × (x ≡ y)
one_front a b x y same e = (
  sym (take-append_seam a x) ∙ ap (λ (n : ℕ). take n (a ++ x)) same ∙ ap (take (length b)) e ∙ take-append_seam b y,
  sym (drop-append_seam a x) ∙ ap (λ (n : ℕ). drop n (a ++ x)) same ∙ ap (drop (length b)) e ∙ drop-append_seam b y,
)

no_newline : (text : Bytes) → list_any (λ byte. byte == 10) text ≡ false → HasNoNewline text
no_newline [] none = All-nil (λ byte. byte ≢ 10)
no_newline (b ∷ bs) none =
    let parts = or_parts (b == 10) (list_any (λ byte. byte == 10) bs) none in
    All-cons (λ byte. byte ≢ 10) b bs (λ is. both_ways (b == 10) parts.0 (eq-eqb b 10 is)) (no_newline bs parts.1)

plain_line : (text : Bytes) → HasNoControl text → HasNoNewline text
plain_line [] plain = All-nil (λ byte. byte ≢ 10)
plain_line (b ∷ bs) plain =
    let printable : 32 ≤ b = All-head (λ byte. 32 ≤ byte) b bs plain in
    All-cons (λ byte. byte ≢ 10) b bs (λ is. absurd (omega (arith, printable, is))) (plain_line bs (All-tail (λ byte. 32 ≤ byte) b bs plain))

-- ---- one entry

listed_plain : (x : Bytes) → needs_length x ≡ false → listed x ≡ line x
listed_plain x plain = rw plain refl

listed_long : (x : Bytes) → needs_length x ≡ true → listed x ≡ line (92 ∷ number_text (length x)) ++ line x
listed_long x long = rw long refl

length_plain : (n : ℕ) → n ≤ 65535 → HasNoNewline (92 ∷ number_text n)
length_plain n short = All-cons (λ byte. byte ≢ 10) 92 (number_text n) (λ is. absurd (omega (arith, is))) (plain_line (number_text n) (number_plain n (omega (arith, short))))

-- a line with a length isn't that of an entry without one
not_both : (words y s t : Bytes) → needs_length y ≡ false → line (92 ∷ words) ++ s ≡ line y ++ t → ⊥
not_both words [] s t plain e = let wrong : ◌≡◌ {A = ℕ} 92 10 = cc in absurd (omega (arith, wrong))
not_both words (b ∷ bs) s t plain e =
    let same : ◌≡◌ {A = ℕ} 92 b = cc in
    let parts = or_parts (begins_with_backslash (b ∷ bs)) (list_any (λ byte. byte == 10) (b ∷ bs)) plain in
    both_ways (b == 92) parts.0 (eq-eqb b 92 (sym same))

-- the first of two listings
by_kind : (x y s t : Bytes) (p q : Bool) → needs_length x ≡ p → needs_length y ≡ q → IsShortEntry x → IsShortEntry y → listed x ++ s ≡ listed y ++ t → (x ≡ y) × (s ≡ t)
by_kind x y s t false false kx ky short_x short_y e =
    let none_x = no_newline x (or_parts (begins_with_backslash x) (list_any (λ byte. byte == 10) x) kx).1 in
    let none_y = no_newline y (or_parts (begins_with_backslash y) (list_any (λ byte. byte == 10) y) ky).1 in
    one_line x y s t none_x none_y (ap (λ (l : Bytes). l ++ s) (sym (listed_plain x kx)) ∙ e ∙ ap (λ (l : Bytes). l ++ t) (listed_plain y ky))
by_kind x y s t true false kx ky short_x short_y e =
    absurd (not_both (number_text (length x)) y (line x ++ s) t ky
    (sym (append_assoc (line (92 ∷ number_text (length x))) (line x) s) ∙ ap (λ (l : Bytes). l ++ s) (sym (listed_long x kx)) ∙ e ∙ ap (λ (l : Bytes). l ++ t) (listed_plain y ky)))
by_kind x y s t false true kx ky short_x short_y e =
    absurd (not_both (number_text (length y)) x (line y ++ t) s kx
    (sym (append_assoc (line (92 ∷ number_text (length y))) (line y) t) ∙ ap (λ (l : Bytes). l ++ t) (sym (listed_long y ky)) ∙ sym e ∙ ap (λ (l : Bytes). l ++ s) (listed_plain x kx)))
by_kind x y s t true true kx ky short_x short_y e =
    let m = number_text (length x) in
    let n = number_text (length y) in
    let both : line (92 ∷ m) ++ (line x ++ s) ≡ line (92 ∷ n) ++ (line y ++ t) =
    sym (append_assoc (line (92 ∷ m)) (line x) s) ∙ ap (λ (l : Bytes). l ++ s) (sym (listed_long x kx)) ∙ e ∙ ap (λ (l : Bytes). l ++ t) (listed_long y ky) ∙ append_assoc (line (92 ∷ n)) (line y) t in
    let cut = one_line (92 ∷ m) (92 ∷ n) (line x ++ s) (line y ++ t) (length_plain (length x) short_x) (length_plain (length y) short_y) both in
    let words : m ≡ n = ap (drop 1) cut.0 in
    let same : length x ≡ length y = decimal_injective (length x) (length y) (omega (arith, short_x)) (omega (arith, short_y)) words in
    let fronts = one_front x y (10 ∷ s) (10 ∷ t) same (sym (append_assoc x (10 ∷ []) s) ∙ cut.1 ∙ append_assoc y (10 ∷ []) t) in
    (fronts.0, ap (drop 1) fronts.1)

listed_not_empty : (x s : Bytes) → listed x ++ s ≡ [] → ⊥
listed_not_empty x s e = by_length x s (needs_length x) refl e where
  by_length : (x s : Bytes) (p : Bool) → needs_length x ≡ p → listed x ++ s ≡ [] → ⊥
  by_length x s false k e = line_some x s (ap (λ (l : Bytes). l ++ s) (sym (listed_plain x k)) ∙ e) where
    line_some : (x s : Bytes) → line x ++ s ≡ [] → ⊥
    line_some [] s e = cc
    line_some (b ∷ bs) s e = cc
  by_length x s true k e =
      let wrong : line (92 ∷ number_text (length x)) ++ line x ++ s ≡ [] = ap (λ (l : Bytes). l ++ s) (sym (listed_long x k)) ∙ e in
      cc

-- a listing is of one list of entries
pub listed_once : (xs ys : List Bytes) → AreShortEntries xs → AreShortEntries ys → listed_text xs ≡ listed_text ys → xs ≡ ys
listed_once [] [] sx sy e = refl
listed_once [] (y ∷ ys) sx sy e = absurd (listed_not_empty y (listed_text ys) (sym (e ∙ flat_map-cons listed y ys)))
listed_once (x ∷ xs) [] sx sy e = absurd (listed_not_empty x (listed_text xs) (sym (flat_map-cons listed x xs) ∙ e))
listed_once (x ∷ xs) (y ∷ ys) sx sy e =
    let cut = by_kind x y (listed_text xs) (listed_text ys) (needs_length x) (needs_length y) refl refl (All-head IsShortEntry x xs sx) (All-head IsShortEntry y ys sy)
    (sym (flat_map-cons listed x xs) ∙ e ∙ flat_map-cons listed y ys) in
    let others = listed_once xs ys (All-tail IsShortEntry x xs sx) (All-tail IsShortEntry y ys sy) cut.1 in
    ap (λ (z : Bytes). z ∷ xs) cut.0 ∙ ap (λ (zs : List Bytes). y ∷ zs) others
