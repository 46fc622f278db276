-- Judging the lines of a note in order.
use Rattle.std.proofs.Common.{◌≡◌, ℕ, zero, suc, ◌+◌, ◌<◌, ◌≤◌, Bool, true, false, cond, List, [], ◌∷◌, ◌++◌, length, drop, refl, sym, ap, subst, ◌∙◌, append_assoc, arith, Some, None, Ok, Err, Result}
use Rattle.std.specs.Prelude.{slice_get, IsErrAnd, filter, find, not, nat_lt, take, ◌&&◌, ◌||◌}
use Rattle.std.specs.List.{enumerate_from, list_any}
use Rattle.std.specs.declared.vec.Vec.{Vec}
use Rattle.std.proofs.lemmas.List.{append-nil}
use Rattle.std.proofs.lemmas.List.Sums.{length-filter}
use Rattle.std.proofs.Math.ListN.{drop_of_length-le}
use Rattle.tl_note.specs.declared.fault.NoteFault.{NoteFault}
use Rattle.tl_note.specs.declared.fault.NoteFault.TheVariants.{Malformed, BadName, Ambiguous, InvalidSignature, Unverified, Sign, OutOfMemory}
use Rattle.tl_note.specs.declared.open.Standing.{Standing}
use Rattle.tl_note.specs.Key.{Key}
use Rattle.tl_note.specs.Note.{Signature}
use Rattle.tl_note.specs.Open.{Placed, is_of, is_same_key, is_known, is_unknown, is_repeated, is_ambiguous, is_valid, is_wrong, counts, counting_lines, unknown_lines, first_wrong, places, NeedsMemory}
use Rattle.tl_note.specs.Inner.Judging.{VerifiesLine, JudgesLine, SortsLines}

-- a fault of the line's signature is passed on
pub judges_fault : (keys : List Key) (text : List ℕ) (lines : List Signature) (p : Placed) (fault : NoteFault) (r : Result Standing NoteFault) → is_known keys p ≡ true → is_repeated lines p ≡ false → VerifiesLine keys text p (Err fault) → IsErrAnd r (λ e. e ≡ fault) → JudgesLine keys text lines p r
judges_fault keys text lines p fault (Ok s) known first fails same = absurd same
judges_fault keys text lines p fault (Err e) known first fails same = subst (λ (f : NoteFault). JudgesLine keys text lines p (Err f)) (sym same) (known, first, fails)

-- a list from a place on
none_is_some : {X : Type 0} (x : X) → None ≡ Some x → ⊥
none_is_some x e = cc

some_same : {X : Type 0} (x y : X) → Some x ≡ Some y → x ≡ y
some_same x y e = cc

drop_at : {X : Type 0} (xs : List X) (n : ℕ) (x : X) → slice_get xs n ≡ Some x → drop n xs ≡ x ∷ drop (suc n) xs
drop_at [] n x e = absurd (none_is_some x e)
drop_at (y ∷ ys) zero x e = ap (λ z. z ∷ ys) (some_same y x e)
drop_at (y ∷ ys) (suc n) x e = drop_at ys n x e

-- the lines from a place on, with their places
abbrev pub from : ℕ → List Signature → List Placed
from n lines = enumerate_from n (drop n lines)

from_at : (lines : List Signature) (n : ℕ) (line : Signature) → slice_get lines n ≡ Some line → from n lines ≡ (n, line) ∷ from (n + 1) lines
from_at lines n line at = ap (enumerate_from n) (drop_at lines n line at) ∙ ap (λ (m : ℕ). (n, line) ∷ enumerate_from (n + 1) (drop m lines)) {x = suc n} {y = n + 1} (omega arith)

filter_no : {X : Type 0} (test : X → Bool) (x : X) (xs : List X) → test x ≡ false → filter test (x ∷ xs) ≡ filter test xs
filter_no test x xs e = ap (λ (b : Bool). cond b (x ∷ filter test xs) (filter test xs)) e

filter_yes : {X : Type 0} (test : X → Bool) (x : X) (xs : List X) → test x ≡ true → filter test (x ∷ xs) ≡ x ∷ filter test xs
filter_yes test x xs e = ap (λ (b : Bool). cond b (x ∷ filter test xs) (filter test xs)) e

-- the first line isn't ambiguous, if it stands before a place
abbrev pub HasBegun : List Key → List Signature → ℕ → Type 0
HasBegun keys lines n = (first : Signature) → slice_get lines 0 ≡ Some first → 0 < n → is_ambiguous keys (0, first) ≡ false

begun_more : (keys : List Key) (lines : List Signature) (n : ℕ) (line : Signature) → slice_get lines n ≡ Some line → HasBegun keys lines n → (n ≡ 0 → is_ambiguous keys (0, line) ≡ false) → HasBegun keys lines (n + 1)
begun_more keys lines zero line at before here first at_first lt = subst (λ (s : Signature). is_ambiguous keys (0, s) ≡ false) (some_same line first (sym at ∙ at_first)) (here refl)
begun_more keys lines (suc n) line at before here first at_first lt = before first at_first (omega arith)

-- memory is asked for at a line that isn't ambiguous
pub needs_memory : (keys : List Key) (lines : List Signature) (n : ℕ) (line : Signature) → slice_get lines n ≡ Some line → HasBegun keys lines n → is_ambiguous keys (n, line) ≡ false → NeedsMemory keys lines
needs_memory keys [] n line at before here = absurd (none_is_some line at)
needs_memory keys (first ∷ lines) zero line at before here = (line, at, here)
needs_memory keys (first ∷ lines) (suc n) line at before here = (first, refl, before first refl (omega arith))

-- the key of an unknown line is of no verifier, so not of two
none_left : {X : Type 0} (test : X → Bool) (xs : List X) → list_any test xs ≡ false → filter test xs ≡ []
none_left test [] none = refl
none_left test (x ∷ xs) none =
    let P : Bool → Type 0 = λ b. (b || list_any test xs) ≡ false → cond b (x ∷ filter test xs) (filter test xs) ≡ [] in
    elim (test x) as P [
      | true ↦ λ e. absurd (let same : true ≡ false = e in cc)
      | false ↦ λ e. none_left test xs e
    ] none

pub unknown_clear : (keys : List Key) (n : ℕ) (line : Signature) → is_known keys (n, line) ≡ false → is_ambiguous keys (n, line) ≡ false
unknown_clear keys n line unknown = ap (λ (m : ℕ). nat_lt 1 m) (sym (length-filter (is_of line) keys) ∙ ap (λ (ks : List Key). length ks) (none_left (is_of line) keys unknown))

-- what was found of the lines before a place, and what is left to find
pub record HasSorted (keys : List Key) (text : List ℕ) (lines : List Signature) (n : ℕ) (verified unverified : List ℕ) : Type 0 where
  pub known : verified ++ places (filter (counts keys lines) (from n lines)) ≡ places (counting_lines keys lines)
  pub others : unverified ++ places (filter (is_unknown keys) (from n lines)) ≡ places (unknown_lines keys lines)
  pub sound : find (is_wrong keys text) (filter (counts keys lines) (from n lines)) ≡ first_wrong keys text lines
  pub begun : HasBegun keys lines n

module _ (keys : List Key) (text : List ℕ) (lines : List Signature) (n : ℕ) (line : Signature) (at : slice_get lines n ≡ Some line) (verified unverified : List ℕ) (has : HasSorted keys text lines n verified unverified) where
  -- the line doesn't count
  passed : counts keys lines (n, line) ≡ false → filter (counts keys lines) (from (n + 1) lines) ≡ filter (counts keys lines) (from n lines)
  passed out = sym (filter_no (counts keys lines) (n, line) (from (n + 1) lines) out) ∙ ap (filter (counts keys lines)) (sym (from_at lines n line at))

  -- it counts
  taken : counts keys lines (n, line) ≡ true → (n, line) ∷ filter (counts keys lines) (from (n + 1) lines) ≡ filter (counts keys lines) (from n lines)
  taken into = sym (filter_yes (counts keys lines) (n, line) (from (n + 1) lines) into) ∙ ap (filter (counts keys lines)) (sym (from_at lines n line at))

  -- a verifier has its key
  known_passed : is_known keys (n, line) ≡ true → filter (is_unknown keys) (from (n + 1) lines) ≡ filter (is_unknown keys) (from n lines)
  known_passed known = sym (filter_no (is_unknown keys) (n, line) (from (n + 1) lines) (ap not known)) ∙ ap (filter (is_unknown keys)) (sym (from_at lines n line at))

  pub sorts_unknown : is_known keys (n, line) ≡ false → HasSorted keys text lines (n + 1) verified (unverified ++ n ∷ [])
  sorts_unknown unknown =
      let out : counts keys lines (n, line) ≡ false = ap (λ (b : Bool). b && not (is_repeated lines (n, line))) unknown in
      let set_aside : (n, line) ∷ filter (is_unknown keys) (from (n + 1) lines) ≡ filter (is_unknown keys) (from n lines) = sym (filter_yes (is_unknown keys) (n, line) (from (n + 1) lines) (ap not unknown)) ∙ ap (filter (is_unknown keys)) (sym (from_at lines n line at)) in
      record {
        known = ap (λ (ps : List Placed). verified ++ places ps) (passed out) ∙ has.known;
        others = append_assoc unverified (n ∷ []) (places (filter (is_unknown keys) (from (n + 1) lines))) ∙ ap (λ (ps : List Placed). unverified ++ places ps) set_aside ∙ has.others;
        sound = ap (find (is_wrong keys text)) (passed out) ∙ has.sound;
        begun = begun_more keys lines n line at has.begun (λ _. unknown_clear keys n line unknown);
      }

  -- no line is before the first
  again_later : is_repeated lines (n, line) ≡ true → n ≡ 0 → is_ambiguous keys (0, line) ≡ false
  again_later again start = let none : is_repeated lines (n, line) ≡ false = ap (λ (m : ℕ). list_any (is_same_key line) (take m lines)) start in absurd (let same : true ≡ false = sym again ∙ none in cc)

  pub sorts_repeated : is_known keys (n, line) ≡ true → is_repeated lines (n, line) ≡ true → HasSorted keys text lines (n + 1) verified unverified
  sorts_repeated known again =
      let out : counts keys lines (n, line) ≡ false = ap (λ (b : Bool). b && not (is_repeated lines (n, line))) known ∙ ap not again in
      record {
        known = ap (λ (ps : List Placed). verified ++ places ps) (passed out) ∙ has.known;
        others = ap (λ (ps : List Placed). unverified ++ places ps) (known_passed known) ∙ has.others;
        sound = ap (find (is_wrong keys text)) (passed out) ∙ has.sound;
        begun = begun_more keys lines n line at has.begun (again_later again);
      }

  counted : is_known keys (n, line) ≡ true → is_repeated lines (n, line) ≡ false → counts keys lines (n, line) ≡ true
  counted known first = ap (λ (b : Bool). b && not (is_repeated lines (n, line))) known ∙ ap not first

  pub sorts_verified : is_known keys (n, line) ≡ true → is_repeated lines (n, line) ≡ false → VerifiesLine keys text (n, line) (Ok tt) → HasSorted keys text lines (n + 1) (verified ++ n ∷ []) unverified
  sorts_verified known first right =
      let into = counted known first in
      let sound : is_wrong keys text (n, line) ≡ false = ap (λ (b : Bool). b || not (is_valid keys text (n, line))) right.0 ∙ ap not right.1 in
      record {
        known = append_assoc verified (n ∷ []) (places (filter (counts keys lines) (from (n + 1) lines))) ∙ ap (λ (ps : List Placed). verified ++ places ps) (taken into) ∙ has.known;
        others = ap (λ (ps : List Placed). unverified ++ places ps) (known_passed known) ∙ has.others;
        sound = ap (λ (b : Bool). cond b (Some (n, line)) (find (is_wrong keys text) (filter (counts keys lines) (from (n + 1) lines)))) (sym sound) ∙ ap (find (is_wrong keys text)) (taken into) ∙ has.sound;
        begun = begun_more keys lines n line at has.begun (λ _. right.0);
      }

  wrong_first : is_known keys (n, line) ≡ true → is_repeated lines (n, line) ≡ false → is_wrong keys text (n, line) ≡ true → first_wrong keys text lines ≡ Some (n, line)
  wrong_first known first wrong = sym has.sound ∙ ap (find (is_wrong keys text)) (sym (taken (counted known first))) ∙ ap (λ (b : Bool). cond b (Some (n, line)) (find (is_wrong keys text) (filter (counts keys lines) (from (n + 1) lines)))) wrong

  faults : (A : Type 0) (fault : NoteFault) → JudgesLine keys text lines (n, line) (Err fault) → SortsLines {A = A} keys text lines (Err fault)
  faults A Malformed judged = judged.2
  faults A (BadName i) judged = judged.2
  faults A (Ambiguous i) judged = ((n, line), wrong_first judged.0 judged.1 (ap (λ (b : Bool). b || not (is_valid keys text (n, line))) judged.2.1), judged.2.0, judged.2.1)
  faults A (InvalidSignature i) judged = ((n, line), wrong_first judged.0 judged.1 (ap (λ (b : Bool). b || not (is_valid keys text (n, line))) judged.2.1 ∙ ap not judged.2.2), judged.2.0, judged.2.1)
  faults A Unverified judged = judged.2
  faults A (Sign i) judged = judged.2
  faults A OutOfMemory judged = needs_memory keys lines n line at has.begun judged.2

  pub sorts_fault : {A : Type 0} → (fault : NoteFault) (r : Result (Vec ℕ A × Vec ℕ A) NoteFault) → JudgesLine keys text lines (n, line) (Err fault) → IsErrAnd r (λ e. e ≡ fault) → SortsLines keys text lines r
  sorts_fault fault (Ok found) judged same = absurd same
  sorts_fault {A = A} fault (Err e) judged same = subst (λ (f : NoteFault). SortsLines {A = A} keys text lines (Err f)) (sym same) (faults A fault judged)

-- memory runs out
pub sorts_refused : {A : Type 0} → (keys : List Key) (text : List ℕ) (lines : List Signature) (r : Result (Vec ℕ A × Vec ℕ A) NoteFault) → IsErrAnd r (λ e. e ≡ OutOfMemory) → NeedsMemory keys lines → SortsLines keys text lines r
sorts_refused keys text lines (Ok found) same needs = absurd same
sorts_refused {A = A} keys text lines (Err e) same needs = subst (λ (f : NoteFault). SortsLines {A = A} keys text lines (Err f)) (sym same) needs

-- equal lists
pub sorted_same : (keys : List Key) (text : List ℕ) (lines : List Signature) (n : ℕ) (v w u x : List ℕ) → v ≡ w → u ≡ x → HasSorted keys text lines n w x → HasSorted keys text lines n v u
sorted_same keys text lines n v w u x e f has = subst (λ (l : List ℕ). HasSorted keys text lines n l u) (sym e) (subst (λ (l : List ℕ). HasSorted keys text lines n w l) (sym f) has)

-- no line is left
pub sorts_all : (keys : List Key) (text : List ℕ) (lines : List Signature) (n : ℕ) (verified unverified : List ℕ) → length lines ≤ n → HasSorted keys text lines n verified unverified
    → (first_wrong keys text lines ≡ None) × (verified ≡ places (counting_lines keys lines)) × (unverified ≡ places (unknown_lines keys lines))
sorts_all keys text lines n verified unverified le has =
    let none : from n lines ≡ [] = ap (enumerate_from n) (drop_of_length-le lines le) in (
      sym has.sound ∙ ap (λ (ps : List Placed). find (is_wrong keys text) (filter (counts keys lines) ps)) none,
      sym (append-nil verified) ∙ ap (λ (ps : List Placed). verified ++ places (filter (counts keys lines) ps)) (sym none) ∙ has.known,
      sym (append-nil unverified) ∙ ap (λ (ps : List Placed). unverified ++ places (filter (is_unknown keys) ps)) (sym none) ∙ has.others,
    )
