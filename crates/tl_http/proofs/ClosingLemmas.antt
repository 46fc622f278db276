-- The option `close` in the value of a field.
use Rattle.std.proofs.Common.{◌≡◌, ◌+◌, ◌<◌, ◌≤◌, ℕ, List, ◌++◌, Bool, IsTrue, false, true, ap, append_assoc, arith, codes, drop, inl, inr, length, length-append, refl, reverse, subst, sym, take, ◌∙◌}
use Rattle.std.proofs.lemmas.List.{length-map, length-take-le, take-append-drop}
use Rattle.std.proofs.Math.Nat.{eq-or-lt_of_le}
use Rattle.std.proofs.Math.Seq.{drop-append_seam, take-append_seam}
use Rattle.std.specs.Char.{to_ascii_lowercase}
use Rattle.std.specs.Prelude.{◌↔◌}
use Rattle.tl_http.specs.Fields.{IsSameWord}
use Rattle.tl_http.specs.Persistence.{NamesClose, is_item_end}
use Rattle.tl_http.specs.Inner.Closing.{NamesCloseAt}

-- what stands at an index of the value
pub stands_at : (value before rest word after : List ℕ) (start : ℕ) → start ≤ length value → before ≡ take start value → rest ≡ drop start value
    → word ≡ take 5 rest → after ≡ drop 5 rest → IsSameWord word (codes "close") → IsTrue (is_item_end (reverse before)) → IsTrue (is_item_end after)
    → NamesCloseAt value start
stands_at value before rest word after start within front back cut left close first last = (
  record {
    before = before;
    word = word;
    after = after;
    joined = sym (append_assoc before word after
        ∙ (ap (λ (l : List ℕ). before ++ l) (ap (λ (l : List ℕ). l ++ after) cut ∙ (ap (λ (l : List ℕ). take 5 rest ++ l) left ∙ take-append-drop 5 rest))
        ∙ (ap (λ (l : List ℕ). l ++ rest) front ∙ (ap (λ (l : List ℕ). take start value ++ l) back ∙ take-append-drop start value))));
    close = close;
    first = first;
    last = last;
  },
  ap (λ (l : List ℕ). length l) front ∙ length-take-le start value within,
)

-- the word has five letters
five : (word : List ℕ) → IsSameWord word (codes "close") → length word ≡ 5
five word same = sym (length-map word to_ascii_lowercase) ∙ ap (λ (l : List ℕ). length l) same

-- the parts at an index are those that are cut there
pub record Parts (value before word after : List ℕ) (start : ℕ) : Type 0 where
  pub front : before ≡ take start value
  pub cut : word ≡ take 5 (drop start value)
  pub left : after ≡ drop 5 (drop start value)
  pub room : start + 5 ≤ length value

parts : (value before word after : List ℕ) → value ≡ before ++ (word ++ after) → length word ≡ 5 → Parts value before word after (length before)
parts value before word after joined long =
    let back : drop (length before) value ≡ word ++ after = ap (λ (l : List ℕ). drop (length before) l) joined ∙ drop-append_seam before (word ++ after) in
    let cut : take 5 (word ++ after) ≡ word = ap (λ (n : ℕ). take n (word ++ after)) (sym long) ∙ take-append_seam word after in
    let left : drop 5 (word ++ after) ≡ after = ap (λ (n : ℕ). drop n (word ++ after)) (sym long) ∙ drop-append_seam word after in
    let size = ap (λ (l : List ℕ). length l) joined in
    record {
      front = sym (ap (λ (l : List ℕ). take (length before) l) joined ∙ take-append_seam before (word ++ after));
      cut = sym (ap (λ (l : List ℕ). take 5 l) back ∙ cut);
      left = sym (ap (λ (l : List ℕ). drop 5 l) back ∙ left);
      room = omega (arith, size, long, length-append before (word ++ after), length-append word after);
    }

pub parts_at : (value : List ℕ) (start : ℕ) (at : NamesCloseAt value start) → Parts value at.0.before at.0.word at.0.after start
parts_at value start (is, place) =
    subst (λ (k : ℕ). Parts value is.before is.word is.after k) place (parts value is.before is.word is.after (is.joined ∙ append_assoc is.before is.word is.after) (five is.word is.close))

-- the option stands at no index up to this one
pub none_further : (value : List ℕ) (start : ℕ) → ((k : ℕ) → k < start → ¬ (NamesCloseAt value k)) → ¬ (NamesCloseAt value start)
    → (k : ℕ) → k < start + 1 → ¬ (NamesCloseAt value k)
none_further value start before here k within = λ at.
    elim (eq-or-lt_of_le {n = k} {m = start} (omega (arith, within))) as (λ _. ⊥) [
      | inl same ↦ here (subst (λ (n : ℕ). NamesCloseAt value n) same at)
      | inr less ↦ before k less at
    ]

-- an option stands at some index of the value
pub at_some : (value : List ℕ) (end : ℕ) → length value ≤ end → ((k : ℕ) → k < end → ¬ (NamesCloseAt value k)) → ¬ (NamesClose value)
at_some value end past none = λ is.
    let at = parts_at value (length is.before) (is, refl) in
    let room = at.room in
    none (length is.before) (omega (arith, room, past)) (is, refl)

-- ---- what the tests report

-- what is true isn't false
pub is_apart : (test : Bool) → IsTrue test → test ≡ false → ⊥
is_apart test is off = cc

-- another word is there
pub other_word : (value rest word : List ℕ) (start : ℕ) (test : Bool) → rest ≡ drop start value → word ≡ take 5 rest
    → (IsSameWord word (codes "close") → IsTrue test) → test ≡ false → IsTrue false ↔ NamesCloseAt value start
other_word value rest word start test back cut same off = (
  λ is. absurd (is_apart false is refl),
  λ at.
      let is : at.0.word ≡ word = (parts_at value start at).cut ∙ (ap (λ (l : List ℕ). take 5 l) (sym back) ∙ sym cut) in
      absurd (is_apart test (same (subst (λ (l : List ℕ). IsSameWord l (codes "close")) is at.0.close)) off),
)

-- a word goes on there
pub no_start : (value before : List ℕ) (start : ℕ) (test : Bool) → before ≡ take start value → test ≡ is_item_end (reverse before) → test ≡ false
    → IsTrue false ↔ NamesCloseAt value start
no_start value before start test front tests off = (
  λ is. absurd (is_apart false is refl),
  λ at.
      let same : at.0.before ≡ before = (parts_at value start at).front ∙ sym front in
      absurd (is_apart test (tests ∙ subst (λ (l : List ℕ). IsTrue (is_item_end (reverse l))) same at.0.first) off),
)

-- the word begins there, and ends or goes on
pub stands_where : (value before rest word after : List ℕ) (start : ℕ) (test end : Bool) → start ≤ length value → before ≡ take start value → rest ≡ drop start value
    → word ≡ take 5 rest → after ≡ drop 5 rest → IsSameWord word (codes "close") → test ≡ is_item_end (reverse before) → test ≡ true → end ≡ is_item_end after
    → IsTrue end ↔ NamesCloseAt value start
stands_where value before rest word after start test end within front back cut left close tests begins ends = (
  λ is. stands_at value before rest word after start within front back cut left close (sym tests ∙ begins) (sym ends ∙ is),
  λ at.
      let same : at.0.after ≡ after = (parts_at value start at).left ∙ (ap (λ (l : List ℕ). drop 5 l) (sym back) ∙ sym left) in
      ends ∙ subst (λ (l : List ℕ). IsTrue (is_item_end l)) same at.0.last,
)

-- the option stands at no index of the value
pub stands_nowhere : (value : List ℕ) (end : ℕ) → length value ≤ end → ((k : ℕ) → k < end → ¬ (NamesCloseAt value k)) → IsTrue false ↔ NamesClose value
stands_nowhere value end past none = (λ is. absurd (is_apart false is refl), λ is. absurd (at_some value end past none is))
