-- Entries added one after another.
use Rattle.std.proofs.Common.{◌≡◌, ℕ, ◌+◌, ◌<◌, ◌≤◌, List, [], ◌∷◌, ◌++◌, length, take, drop, map, get_or, refl, sym, ap, subst, ◌∙◌, append_assoc, arith}
use Rattle.std.proofs.lemmas.List.{length-append, append-nil, length-map, length-take-le, map-append, map_more, take-append-drop}
use Rattle.tl_hash.specs.Bytes.{Bytes, Digest}
use Rattle.tl_hash.specs.Tree.{leaf_input}
use Rattle.tl_store.specs.Stored.{stored_count, stored_hashes}
use Rattle.tl_store.specs.Inner.Subtrees.{subtree_hash}
use Rattle.tl_store.specs.Inner.Adds.{AddsEntries, IsBegun}
use Rattle.tl_store.proofs.Completed.{first_subtree}
use Rattle.tl_store.proofs.Readable.{stored_count-mono}

-- no entry
pub adds-none : (H : Digest) (size : ℕ) (hashes : List Bytes) → AddsEntries H size [] hashes hashes
adds-none H size hashes = record {
  counted = λ counted. let same : size ≡ size + 0 = omega arith in counted ∙ ap stored_count same;
  hashes = λ entries len stored. stored ∙ ap (stored_hashes H) (sym (append-nil entries));
}

-- some, and then others
pub adds-then : (H : Digest) (size middle : ℕ) (first next : List Bytes) (before between now : List Bytes)
    → AddsEntries H size first before between → middle ≡ size + length first → AddsEntries H middle next between now
    → AddsEntries H size (first ++ next) before now
adds-then H size middle first next before between now one middle_is two =
    let sum : middle + length next ≡ size + length (first ++ next) = omega (arith, middle_is, length-append first next) in
    record {
      counted = λ counted. two.counted (one.counted counted ∙ ap stored_count (sym middle_is)) ∙ ap stored_count sum;
      hashes = λ entries len stored.
          two.hashes (entries ++ first) (length-append entries first ∙ omega (arith, len, middle_is)) (one.hashes entries len stored)
          ∙ ap (stored_hashes H) (append_assoc entries first next);
    }

-- one, by the hash of its leaf
pub adds-leaf : (H : Digest) (size : ℕ) (entry leaf : Bytes) (before pushed now : List Bytes)
    → leaf ≡ H (leaf_input entry) → pushed ≡ before ++ leaf ∷ [] → length now ≡ stored_count (size + 1)
    → ((entries : List Bytes) (entry : Bytes) → length entries + 1 ≡ size + 1 → IsBegun H (size + 1) entries entry 0 pushed leaf → now ≡ stored_hashes H (entries ++ entry ∷ []))
    → AddsEntries H size (entry ∷ []) before now
adds-leaf H size entry leaf before pushed now leaf_is pushed_is counted added = record {
  counted = λ _. counted;
  hashes = λ entries len stored.
      let first : leaf ≡ subtree_hash H (entries ++ entry ∷ []) (size + 1) 0 = leaf_is ∙ sym (first_subtree H entries entry (size + 1) (omega (arith, len))) in
      added entries entry (omega (arith, len)) (first, pushed_is ∙ (λ i. stored i ++ first i ∷ []));
}

taken : {X : Type 0} (f : X → Bytes) (xs : List X) (i : ℕ) → i ≤ length xs → length (map f (take i xs)) ≡ i
taken f xs i low = length-map (take i xs) f ∙ length-take-le i xs low

-- the first of some, and then the rest
pub adds-parts : {X : Type 0} (f : X → Bytes) (H : Digest) (size middle k : ℕ) (xs : List X) (before between now : List Bytes)
    → k ≤ length xs → middle ≡ size + k → AddsEntries H size (map f (take k xs)) before between → AddsEntries H middle (map f (drop k xs)) between now
    → AddsEntries H size (map f xs) before now
adds-parts f H size middle k xs before between now low middle_is first rest =
    let whole : map f (take k xs) ++ map f (drop k xs) ≡ map f xs = sym (map-append f (take k xs) (drop k xs)) ∙ ap (map f) (take-append-drop k xs) in
    subst (λ (list : List Bytes). AddsEntries H size list before now) whole
    (adds-then H size middle (map f (take k xs)) (map f (drop k xs)) before between now first (omega (arith, middle_is, taken f xs k low)) rest)

-- ---- the next of a list

one_more : {X : Type 0} (f : X → Bytes) (xs : List X) (i after : ℕ) (x : X) → after ≡ i + 1 → i < length xs → x ≡ get_or xs i x
    → map f (take after xs) ≡ map f (take i xs) ++ f x ∷ []
one_more f xs i after x after_is low x_is =
    ap (λ (n : ℕ). map f (take n xs)) after_is ∙ map_more f xs i x low ∙ (λ k. map f (take i xs) ++ f (sym x_is k) ∷ [])

pub adds-next : {X : Type 0} (f : X → Bytes) (H : Digest) (size middle : ℕ) (xs : List X) (i : ℕ) (x : X) (before between now : List Bytes)
    → i < length xs → x ≡ get_or xs i x → middle ≡ size + i
    → AddsEntries H size (map f (take i xs)) before between → AddsEntries H middle (f x ∷ []) between now
    → AddsEntries H size (map f (take (i + 1) xs)) before now
adds-next f H size middle xs i x before between now low x_is middle_is done next =
    subst (λ (list : List Bytes). AddsEntries H size list before now) (sym (one_more f xs i (i + 1) x (omega arith) low x_is))
    (adds-then H size middle (map f (take i xs)) (f x ∷ []) before between now done (omega (arith, middle_is, taken f xs i (omega (arith, low)))) next)

-- ---- the first entries of a list, if others are left

pub record AddsFirst {X : Type 0} (f : X → Bytes) (H : Digest) (size : ℕ) (xs left : List X) (before now : List Bytes) : Type 0 where
  pub done : List Bytes
  pub parts : done ++ map f left ≡ map f xs
  pub added : AddsEntries H size done before now

pub first-none : {X : Type 0} (f : X → Bytes) (H : Digest) (size : ℕ) (xs : List X) (hashes : List Bytes) → AddsFirst f H size xs xs hashes hashes
first-none f H size xs hashes = record { done = []; parts = refl; added = adds-none H size hashes }

done_count : {X : Type 0} (f : X → Bytes) (size count : ℕ) (xs left : List X) (done : List Bytes)
    → done ++ map f left ≡ map f xs → count + length left ≡ size + length xs → count ≡ size + length done
done_count f size count xs left done parts counted =
    omega (arith, counted, ap length parts, length-append done (map f left), length-map left f, length-map xs f)

-- how many hashes there are then
pub first-counted : {X : Type 0} (f : X → Bytes) (H : Digest) (size count : ℕ) (xs left : List X) (before now : List Bytes)
    → AddsFirst f H size xs left before now → count + length left ≡ size + length xs → length before ≡ stored_count size → length now ≡ stored_count count
first-counted f H size count xs left before now first count_is counted =
    first.added.counted counted ∙ ap stored_count (sym (done_count f size count xs left first.done first.parts count_is))

-- some more of them
pub first-more : {X : Type 0} (f : X → Bytes) (H : Digest) (size count k : ℕ) (xs left : List X) (before between now : List Bytes)
    → AddsFirst f H size xs left before between → count + length left ≡ size + length xs → AddsEntries H count (map f (take k left)) between now
    → AddsFirst f H size xs (drop k left) before now
first-more f H size count k xs left before between now first count_is next = record {
  done = first.done ++ map f (take k left);
  parts =
      append_assoc first.done (map f (take k left)) (map f (drop k left))
      ∙ ap (λ (list : List Bytes). first.done ++ list) (sym (map-append f (take k left) (drop k left)) ∙ ap (map f) (take-append-drop k left))
      ∙ first.parts;
  added = adds-then H size count first.done (map f (take k left)) before between now first.added (done_count f size count xs left first.done first.parts count_is) next;
}

-- and then what is left
pub first-all : {X : Type 0} (f : X → Bytes) (H : Digest) (size count : ℕ) (xs left : List X) (before between now : List Bytes)
    → AddsFirst f H size xs left before between → count + length left ≡ size + length xs → AddsEntries H count (map f left) between now
    → AddsEntries H size (map f xs) before now
first-all f H size count xs left before between now first count_is next =
    subst (λ (list : List Bytes). AddsEntries H size list before now) first.parts
    (adds-then H size count first.done (map f left) before between now first.added (done_count f size count xs left first.done first.parts count_is) next)

-- there is room for fewer
pub room_for : (size all room : ℕ) → size ≤ all → stored_count all ≤ room → stored_count size ≤ room
room_for size all room less fits = omega (arith, fits, stored_count-mono size all less)
