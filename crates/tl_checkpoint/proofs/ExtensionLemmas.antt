-- Reading lines that aren't empty, one after the other.
use Rattle.std.proofs.Common.{◌≡◌, ℕ, ◌<◌, List, [], ◌∷◌, ◌++◌, length, refl, sym, ap, subst, ◌∙◌, append_assoc, append-nil, arith, All}
use Rattle.std.specs.Prelude.{IsUtf8}
use Rattle.std.specs.List.{flat_map}
use Rattle.std.proofs.lemmas.List.Elements.{All-nil, All-head, All-tail, All-push, All-cons}
use Rattle.std.proofs.lemmas.List.Concat.{flat_map-cons, flat_map-append}
use Rattle.tl_text.specs.Text.{line, number_text, base64_text, HasNoControl, IsOneLine}
use Rattle.tl_text.proofs.Lines.{one_line, line_not_empty}
use Rattle.tl_checkpoint.specs.Checkpoint.{checkpoint_text}
use Rattle.tl_text.specs.Pieces.{IsNoLine}
use Rattle.tl_checkpoint.specs.ParseCheckpoint.{IsInLines}
use Rattle.tl_checkpoint.specs.Inner.CutLines.{AreExtensions, AreSome}

-- what was read, and what is left to read
pub record HasRead (text : List ℕ) (done : List (List ℕ)) (left : List ℕ) : Type 0 where
  pub utf8 : IsUtf8 left
  pub each : All IsOneLine done
  pub whole : flat_map line done ++ left ≡ text

-- what is left is lines
pub record Continue (left : List ℕ) : Type 0 where
  pub more : List (List ℕ)
  pub each : All IsOneLine more
  pub rest : left ≡ flat_map line more

after_done : (done lines : List (List ℕ)) (left : List ℕ) → All IsOneLine done → All IsOneLine lines → flat_map line lines ≡ flat_map line done ++ left → Continue left
after_done [] lines left d l e = record { more = lines; each = l; rest = sym e }
after_done (s ∷ done) [] left d l e =
    absurd (line_not_empty s (flat_map line done ++ left) (sym (append_assoc (line s) (flat_map line done) left) ∙ ap (λ (t : List ℕ). t ++ left) (sym (flat_map-cons line s done)) ∙ sym e))
after_done (s ∷ done) (m ∷ lines) left d l e =
    let opened : line m ++ flat_map line lines ≡ line s ++ (flat_map line done ++ left) = sym (flat_map-cons line m lines) ∙ e ∙ ap (λ (t : List ℕ). t ++ left) (flat_map-cons line s done) ∙ append_assoc (line s) (flat_map line done) left in
    let cut = one_line m s (flat_map line lines) (flat_map line done ++ left) (All-head IsOneLine m lines l).plain (All-head IsOneLine s done d).plain opened in
    after_done done lines left (All-tail IsOneLine s done d) (All-tail IsOneLine m lines l) cut.1

continue : (text left : List ℕ) (done lines : List (List ℕ)) → HasRead text done left → All IsOneLine lines → text ≡ flat_map line lines → Continue left
continue text left done lines read each e = after_done done lines left read.each each (sym e ∙ sym read.whole)

-- what is left is no lines if it doesn't begin with one
none_first : (left : List ℕ) (more : List (List ℕ)) → 0 < length left → IsNoLine left → All IsOneLine more → left ≡ flat_map line more → ⊥
none_first left [] some none each e = absurd (omega (arith, some, ap length e))
none_first left (m ∷ more) some none each e = none m (flat_map line more) (All-head IsOneLine m more each).plain (e ∙ flat_map-cons line m more)

pub no_first : (text left : List ℕ) (done lines : List (List ℕ)) → HasRead text done left → 0 < length left → IsNoLine left → All IsOneLine lines → text ≡ flat_map line lines → ⊥
no_first text left done lines read some none each e = let c = continue text left done lines read each e in none_first left c.more some none c.each c.rest

-- nor if its first line is empty
empty_first : (left words rest : List ℕ) (more : List (List ℕ)) → length words ≡ 0 → left ≡ line words ++ rest → All IsOneLine more → left ≡ flat_map line more → ⊥
empty_first left words rest [] none first each e = absurd (line_not_empty words rest (sym first ∙ e))
empty_first left [] rest (m ∷ more) none first each e =
    let one = All-head IsOneLine m more each in
    let opened : line m ++ flat_map line more ≡ line [] ++ rest = sym (flat_map-cons line m more) ∙ sym e ∙ first in
    let cut = one_line m [] (flat_map line more) rest one.plain (λ k d lt. absurd (omega arith)) opened in
    absurd (omega (arith, one.some, ap length cut.0))
empty_first left (w ∷ words) rest (m ∷ more) none first each e = absurd (omega (arith, none))

pub no_empty : (text left words rest : List ℕ) (done lines : List (List ℕ)) → HasRead text done left → length words ≡ 0 → left ≡ line words ++ rest → All IsOneLine lines → text ≡ flat_map line lines → ⊥
no_empty text left words rest done lines read none first each e =
    let c = continue text left done lines read each e in empty_first left words rest c.more none first c.each c.rest

-- one line more is read
pub reads_more : (text left words rest : List ℕ) (done : List (List ℕ)) → HasRead text done left → IsOneLine words → left ≡ line words ++ rest → IsUtf8 rest → HasRead text (done ++ words ∷ []) rest
reads_more text left words rest done read one first utf8 = record {
  utf8 = utf8;
  each = All-push IsOneLine done words read.each one;
  whole = ap (λ (t : List ℕ). t ++ rest) (flat_map-append line done (words ∷ []) ∙ ap (λ (t : List ℕ). flat_map line done ++ t) (flat_map-cons line words [] ∙ append-nil (line words)))
      ∙ append_assoc (flat_map line done) (line words) rest ∙ ap (λ (t : List ℕ). flat_map line done ++ t) (sym first) ∙ read.whole;
}

-- what was read of a text whose lines are not kept
pub record HasSeen (text left : List ℕ) : Type 0 where
  pub done : List (List ℕ)
  pub read : HasRead text done left

pub sees_none : (text : List ℕ) → IsUtf8 text → HasSeen text text
sees_none text utf8 = record { done = []; read = record { utf8 = utf8; each = All-nil IsOneLine; whole = refl } }

pub sees_more : (text left words rest : List ℕ) → HasSeen text left → IsOneLine words → left ≡ line words ++ rest → IsUtf8 rest → HasSeen text rest
sees_more text left words rest seen one first utf8 = record { done = seen.done ++ words ∷ []; read = reads_more text left words rest seen.done seen.read one first utf8 }

-- nothing is left
pub reads_all : (text left : List ℕ) (done : List (List ℕ)) → HasRead text done left → length left ≡ 0 → AreExtensions text done
reads_all text [] done read none = record { each = read.each; joined = sym read.whole ∙ append-nil (flat_map line done) }
reads_all text (x ∷ left) done read none = absurd (omega arith)

-- in a text of lines that aren't empty, the next one isn't
next_line : (left words rest : List ℕ) (more : List (List ℕ)) → HasNoControl words → left ≡ line words ++ rest → All IsOneLine more → left ≡ flat_map line more → IsOneLine words
next_line left words rest [] plain first each e = absurd (line_not_empty words rest (sym first ∙ e))
next_line left words rest (m ∷ more) plain first each e =
    let one = All-head IsOneLine m more each in
    subst IsOneLine (one_line m words (flat_map line more) rest one.plain plain (sym (flat_map-cons line m more) ∙ sym e ∙ first)).0 one

pub next_one : (text left words rest : List ℕ) (done : List (List ℕ)) → HasRead text done left → AreSome text → HasNoControl words → left ≡ line words ++ rest → IsOneLine words
next_one text left words rest done read all plain first =
    let c = continue text left done all.0 read all.1.each all.1.joined in
    next_line left words rest c.more plain first c.each c.rest

-- and nothing is left if no line is
none_left : (left : List ℕ) (more : List (List ℕ)) → IsNoLine left → All IsOneLine more → left ≡ flat_map line more → length left ≡ 0
none_left left [] none each e = ap (λ (t : List ℕ). length t) e
none_left left (m ∷ more) none each e = absurd (none m (flat_map line more) (All-head IsOneLine m more each).plain (e ∙ flat_map-cons line m more))

pub reads_whole : (text left : List ℕ) (done : List (List ℕ)) → HasRead text done left → AreSome text → IsNoLine left → AreExtensions text done
reads_whole text left done read all none =
    let c = continue text left done all.0 read all.1.each all.1.joined in
    reads_all text left done read (none_left left c.more none c.each c.rest)

-- ---- a text in three lines and more

-- what follows the first of some lines
rest_of : (text words rest first : List ℕ) (lines : List (List ℕ)) → HasNoControl words → HasNoControl first → text ≡ line words ++ rest → text ≡ flat_map line (first ∷ lines)
    → rest ≡ flat_map line lines
rest_of text words rest first lines plain also e f = (one_line words first rest (flat_map line lines) plain also (sym e ∙ f ∙ flat_map-cons line first lines)).1

-- a text that doesn't begin with a line is in no lines
begins : (text first : List ℕ) (lines : List (List ℕ)) → IsNoLine text → HasNoControl first → text ≡ flat_map line (first ∷ lines) → ⊥
begins text first lines none plain e = none first (flat_map line lines) plain (e ∙ flat_map-cons line first lines)

pub none_first_line : (text : List ℕ) → IsNoLine text → (lines : List (List ℕ)) → IsInLines text lines → ⊥
none_first_line text none [] is = absurd (omega (arith, is.enough))
none_first_line text none (a ∷ lines) is = begins text a lines none (All-head HasNoControl a lines is.plain) is.joined

pub none_second_line : (text o rest : List ℕ) → HasNoControl o → text ≡ line o ++ rest → IsNoLine rest → (lines : List (List ℕ)) → IsInLines text lines → ⊥
none_second_line text o rest plain e none [] is = absurd (omega (arith, is.enough))
none_second_line text o rest plain e none (a ∷ []) is = absurd (omega (arith, is.enough))
none_second_line text o rest plain e none (a ∷ b ∷ lines) is =
    let after : All HasNoControl (b ∷ lines) = All-tail HasNoControl a (b ∷ lines) is.plain in
    begins rest b lines none (All-head HasNoControl b lines after) (rest_of text o rest a (b ∷ lines) plain (All-head HasNoControl a (b ∷ lines) is.plain) e is.joined)

pub none_third_line : (text o s rest last : List ℕ) → HasNoControl o → HasNoControl s → text ≡ line o ++ rest → rest ≡ line s ++ last → IsNoLine last
    → (lines : List (List ℕ)) → IsInLines text lines → ⊥
none_third_line text o s rest last plain plain_s e f none [] is = absurd (omega (arith, is.enough))
none_third_line text o s rest last plain plain_s e f none (a ∷ []) is = absurd (omega (arith, is.enough))
none_third_line text o s rest last plain plain_s e f none (a ∷ b ∷ []) is = absurd (omega (arith, is.enough))
none_third_line text o s rest last plain plain_s e f none (a ∷ b ∷ c ∷ lines) is =
    let after : All HasNoControl (b ∷ c ∷ lines) = All-tail HasNoControl a (b ∷ c ∷ lines) is.plain in
    let last_after : All HasNoControl (c ∷ lines) = All-tail HasNoControl b (c ∷ lines) after in
    let second = rest_of text o rest a (b ∷ c ∷ lines) plain (All-head HasNoControl a (b ∷ c ∷ lines) is.plain) e is.joined in
    begins last c lines none (All-head HasNoControl c lines last_after) (rest_of rest s last b (c ∷ lines) plain_s (All-head HasNoControl b (c ∷ lines) after) f second)

pub none_extensions : (text o s r rest last left : List ℕ) → HasNoControl o → HasNoControl s → HasNoControl r → text ≡ line o ++ rest → rest ≡ line s ++ last → last ≡ line r ++ left
    → ((lines : List (List ℕ)) → All IsOneLine lines → left ≡ flat_map line lines → ⊥) → (lines : List (List ℕ)) → IsInLines text lines → ⊥
none_extensions text o s r rest last left plain plain_s plain_r e f g none [] is = absurd (omega (arith, is.enough))
none_extensions text o s r rest last left plain plain_s plain_r e f g none (a ∷ []) is = absurd (omega (arith, is.enough))
none_extensions text o s r rest last left plain plain_s plain_r e f g none (a ∷ b ∷ []) is = absurd (omega (arith, is.enough))
none_extensions text o s r rest last left plain plain_s plain_r e f g none (a ∷ b ∷ c ∷ lines) is =
    let after : All HasNoControl (b ∷ c ∷ lines) = All-tail HasNoControl a (b ∷ c ∷ lines) is.plain in
    let last_after : All HasNoControl (c ∷ lines) = All-tail HasNoControl b (c ∷ lines) after in
    let second = rest_of text o rest a (b ∷ c ∷ lines) plain (All-head HasNoControl a (b ∷ c ∷ lines) is.plain) e is.joined in
    let third = rest_of rest s last b (c ∷ lines) plain_s (All-head HasNoControl b (c ∷ lines) after) f second in
    none lines is.extensions (rest_of last r left c lines plain_r (All-head HasNoControl c lines last_after) g third)

-- the text is in these lines
pub in_lines : (text o s r rest last left : List ℕ) (lines : List (List ℕ)) → HasNoControl o → HasNoControl s → HasNoControl r → text ≡ line o ++ rest → rest ≡ line s ++ last
    → last ≡ line r ++ left → All IsOneLine lines → left ≡ flat_map line lines → IsInLines text (o ∷ s ∷ r ∷ lines)
in_lines text o s r rest last left lines plain plain_s plain_r e f g each h = record {
  joined = e ∙ ap (λ (t : List ℕ). line o ++ t) (f ∙ ap (λ (t : List ℕ). line s ++ t) (g ∙ ap (λ (t : List ℕ). line r ++ t) h ∙ sym (flat_map-cons line r lines)) ∙ sym (flat_map-cons line s (r ∷ lines))) ∙ sym (flat_map-cons line o (s ∷ r ∷ lines));
  plain = All-cons HasNoControl o (s ∷ r ∷ lines) plain (All-cons HasNoControl s (r ∷ lines) plain_s (All-cons HasNoControl r lines plain_r (λ k d lt. (each k d lt).plain)));
  enough = omega arith;
  extensions = each;
}

-- the text of a checkpoint, line by line
pub text_of_lines : (text o s r : List ℕ) (extensions : List (List ℕ)) (size : ℕ) (root : List ℕ) → IsInLines text (o ∷ s ∷ r ∷ extensions) → s ≡ number_text size → r ≡ base64_text root
    → text ≡ checkpoint_text (record { origin = o; size = size; root = root; extensions = extensions })
text_of_lines text o s r extensions size root is e f =
    is.joined
    ∙ flat_map-cons line o (s ∷ r ∷ extensions)
    ∙ ap (λ (t : List ℕ). line o ++ t) (flat_map-cons line s (r ∷ extensions) ∙ ap (λ (t : List ℕ). line s ++ t) (flat_map-cons line r extensions))
    ∙ sym (append_assoc (line o) (line s) (line r ++ flat_map line extensions))
    ∙ sym (append_assoc (line o ++ line s) (line r) (flat_map line extensions))
    ∙ ap (λ (t : List ℕ). line o ++ line t ++ line r ++ flat_map line extensions) e
    ∙ ap (λ (t : List ℕ). line o ++ line (number_text size) ++ line t ++ flat_map line extensions) f
