-- The lines that make up batches.
use Rattle.std.proofs.Common.{inl, inr, ◌≡◌, ◌⊎◌, ℕ, ◌<◌, ◌≤◌, Bool, true, false, cond, List, [], ◌∷◌, ◌++◌, Option, length, refl, sym, ap, subst, ◌∙◌, lt-ltb}
use Rattle.std.specs.Prelude.{All, Err}
use Rattle.std.proofs.KnownBytes.{Consumes-nil}
use Rattle.std.proofs.lemmas.Bool.{cases_lt}
use Rattle.std.proofs.lemmas.List.{append-nil, map-append}
use Rattle.std.proofs.lemmas.List.Elements.{All-nil, All-cons}
use Rattle.tl_hash.specs.Bytes.{Bytes}
use Rattle.tl_device.specs.Device.{HasFailed, Passage}
use Rattle.tl_lines.specs.Lines.{Entry, Told, TooLong, Uncut, lines_after, lines_of, one_more, to_come, told_of, unread}
use Rattle.tl_lines.specs.Reading.{ReadsMost, TellsAll, TellsOf, all_entries}
use Rattle.tl_lines.specs.declared.fault.LineFault.{LineFault}
use Rattle.tl_lines.specs.declared.fault.LineFault.TheVariants as faults
use Rattle.tl_lines.proofs.CuttingLemmas.{tells_nothing}
use Rattle.tl_lines.proofs.PieceLemmas.{told_short}
use Rattle.tl_lines.proofs.ReadingLemmas.{of_then, over}
use Rattle.tl_append.specs.Appending.{AreFirst}

-- ---- entries that were read are short

abbrev AreShort : List Bytes → Type 0
AreShort entries = All (λ (entry : Bytes). length entry ≤ 65535) entries

long_told : (number : ℕ) (line : Bytes) (lines : List Bytes) → 65535 < length line → told_of number (line ∷ lines) ≡ TooLong number ∷ told_of (one_more number) lines
long_told number line lines long =
    ap (λ (b : Bool). cond b (TooLong number) (Entry line) ∷ told_of (one_more number) lines) (lt-ltb 65535 (length line) long)

told_are_short : (number : ℕ) (lines entries : List Bytes) (more : List Told) → told_of number lines ≡ all_entries entries ++ more → AreShort entries
told_are_short number lines [] more same = All-nil (λ (entry : Bytes). length entry ≤ 65535)
told_are_short number [] (entry ∷ entries) more same = absurd cc
told_are_short number (line ∷ lines) (entry ∷ entries) more same =
    elim (cases_lt 65535 (length line)) as (λ _. AreShort (entry ∷ entries)) [
      | inl long ↦
          let is = long_told number line lines long in
          absurd (cc (is, same))
      | inr short ↦
          let is = told_short number line lines short in
          let head : line ≡ entry = cc (is, same) in
          let tail : told_of (one_more number) lines ≡ all_entries entries ++ more = cc (is, same) in
          All-cons (λ (e : Bytes). length e ≤ 65535) entry entries (subst (λ (e : Bytes). length e ≤ 65535) head short) (told_are_short (one_more number) lines entries more tail)
    ]

in_either : (in_tail : Bool) (n m : ℕ) (xs ys entries : List Bytes) (more : List Told) → cond in_tail (told_of n xs) (told_of m ys) ≡ all_entries entries ++ more → AreShort entries
in_either true n m xs ys entries more same = told_are_short n xs entries more same
in_either false n m xs ys entries more same = told_are_short m ys entries more same

pub entries_are_short : (u v : Uncut) (p : Passage) (entries : List Bytes) → TellsOf u v p (all_entries entries) → AreShort entries
unfolding to_come
entries_are_short u v p entries told =
    let rest = (u.begun ++ u.waiting) ++ (told.heard ++ []) in
    in_either u.in_tail (one_more u.number) u.number (lines_after rest) (lines_of rest) entries (to_come v []) (told.tells.first [])

-- ---- lines of one call after those of others

pub none_told : (a : Option (List ℕ)) (f : Bool) → TellsOf unread unread (over a a f f) (all_entries [])
none_told a f = record { heard = []; hears = inl (Consumes-nil a); tells = tells_nothing unread; steady = refl }

module _ (v w : Uncut) (a b c : Option (List ℕ)) (f g h : Bool) (xs : List Bytes) (so_far : TellsOf unread v (over a b f g) (all_entries xs)) where
  pub lines_on : (ys : List Bytes) → TellsOf v w (over b c g h) (all_entries ys) → TellsOf unread w (over a c f h) (all_entries (xs ++ ys))
  lines_on ys next =
      subst (λ (ts : List Told). TellsOf unread w (over a c f h) ts) (sym (map-append Entry xs ys)) (of_then unread v w f g h a b c (all_entries xs) (all_entries ys) so_far next)

  pub all_on : (ys : List Bytes) → TellsAll v w (over b c g h) (all_entries ys) → TellsAll unread w (over a c f h) (all_entries (xs ++ ys))
  all_on ys next = record { lines = lines_on ys next.lines; ended = next.ended; at_line = next.at_line }

  first_on : (told : List Told) → TellsOf v w (over b c g h) told → AreFirst (over a c f h) xs
  first_on told next = (w, told, of_then unread v w f g h a b c (all_entries xs) told so_far next)

  -- a read of lines that failed
  pub first_failed : (A : Type 0) (count : ℕ) (fault : LineFault) → ReadsMost {A = A} count v w (over b c g h) (Err fault) → HasFailed (over a c f h) ⊎ AreFirst (over a c f h) xs
  first_failed A count faults.Read next = inl next.2.failed
  first_failed A count faults.TooFew next = absurd next
  first_failed A count (faults.TooLong number) next = inr (first_on (all_entries next.0 ++ TooLong number ∷ []) next.2)
  first_failed A count faults.Endless next =
      inr (first_on (all_entries next.0) (record { heard = next.2.heard; hears = next.2.hears; tells = next.2.tells; steady = next.2.steady }))
  first_failed A count faults.OutOfMemory next =
      inr (first_on (all_entries next.0) (record { heard = next.3.heard; hears = next.3.hears; tells = next.3.tells; steady = next.3.steady }))

-- these entries are the first lines, even if fewer are named
pub are_first : (w : Uncut) (p : Passage) (xs ys : List Bytes) (own : List Bytes) → (own ≡ []) ⊎ (own ≡ ys) → TellsOf unread w p (all_entries (xs ++ ys)) → AreFirst p (xs ++ own)
are_first w p xs ys own (inl none) told =
    (w, all_entries ys, subst (λ (ts : List Told). TellsOf unread w p ts) (map-append Entry xs ys ∙ ap (λ (es : List Bytes). all_entries es ++ all_entries ys) (sym (ap (λ (es : List Bytes). xs ++ es) none ∙ append-nil xs))) told)
are_first w p xs ys own (inr whole) told =
    (w, [], subst (λ (ts : List Told). TellsOf unread w p ts) (ap (λ (es : List Bytes). all_entries (xs ++ es)) (sym whole) ∙ sym (append-nil (all_entries (xs ++ own)))) told)
