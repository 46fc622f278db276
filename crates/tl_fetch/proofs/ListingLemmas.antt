-- Entries from one index on, bundle by bundle, and what is printed of them.
use Rattle.std.proofs.Common.{◌≡◌, ℕ, ◌+◌, ◌-◌, ◌*◌, ◌/◌, ◌%◌, ◌<◌, ◌≤◌, List, [], ◌++◌, length, take, drop, slice_index_or, sym, ap, map, subst, lt_of_lt_of_le, ◌∙◌, arith, ◌⊎◌, inl, inr, Option, Some, None, Bool, append-nil, refl}
use Rattle.std.proofs.lemmas.List.{drop-map, take_rest, length-map, get_or-drop, length-drop, length-append, get_or_append_left, get_or-append_right}
use Rattle.std.proofs.lemmas.List.Concat.{flat_map-append}
use Rattle.std.proofs.lemmas.Bool.{cases_lt}
use Rattle.std.proofs.Math.Seq.{take-append-add, take-length}
use Rattle.std.proofs.KnownBytes.{Appends-kept, Appends-trans}
use Rattle.std.specs.Io.KnownBytes.{Appends, Keeps}
use Rattle.sha2.specs.Sha256.{sha256}
use Rattle.tl_hash.specs.Bytes.{Bytes, Digest}
use Rattle.tl_device.specs.Device.{Passage}
use Rattle.tl_fetch.specs.Listed.{listed, listed_text}
use Rattle.tl_tile.specs.Needed.{bundle_width}
use Rattle.tl_hash.specs.declared.head.Head.{Head}
use Rattle.tl_fetch.specs.Entries.{IsCheckedBundle, IsCheckedEntry, AreEntriesBetween, AreLinesBetween, RefusesBundle}
use Rattle.tl_tile.specs.declared.resource.Resource.{Resource}
use Rattle.tl_fetch.specs.declared.fault.FetchFault.{FetchFault}
use Rattle.tl_fetch.specs.Printed.{FailsPrinting, PrintedSome, PrintedWhole, RefusesAll}
use Rattle.tl_fetch.proofs.EntryLemmas.{place_within}
use Rattle.tl_fetch.proofs.Passages.{GoesOn, joined}

-- places after one in its bundle
pub same_bundle : (from i : ℕ) → from % 256 + i < 256 → (from + i) / 256 ≡ from / 256
same_bundle from i below = grind arith

pub next_place : (from i : ℕ) → from % 256 + i < 256 → (from + i) % 256 ≡ from % 256 + i
next_place from i below = grind arith

-- a bundle has at most 256 entries, all of the log
pub width_most : (size bundle : ℕ) → bundle_width size bundle ≤ 256
width_most size bundle = grind arith

pub width_inside : (size from i : ℕ) → 256 * (from / 256) < size → from % 256 + i < bundle_width size (from / 256) → from + i < size
width_inside size from i within below = grind arith

rest_place : (entries : List Bytes) (k i : ℕ) → k ≤ length entries → i < length (drop k entries) → k + i < length entries
rest_place entries k i within below = omega (arith, length-drop k entries, within, below)

-- the rest of a checked bundle, from the place of an entry on
pub rest_between : (H : Digest) (head : Head) (from : ℕ) (entries : List Bytes) → IsCheckedBundle H head (from / 256) entries → from % 256 ≤ length entries
    → AreEntriesBetween H head from (from + length (drop (from % 256) entries)) (drop (from % 256) entries)
rest_between H head from entries bundle within =
    record {
      count = refl;
      each = λ i below.
          let place : from % 256 + i < length entries = rest_place entries (from % 256) i within below in
          let wide : length entries ≡ bundle_width head.size (from / 256) = bundle.checked.whole.count in
          let inside : from % 256 + i < bundle_width head.size (from / 256) = subst (λ (n : ℕ). from % 256 + i < n) wide place in
          let few : from % 256 + i < 256 = lt_of_lt_of_le inside (width_most head.size (from / 256)) in
          record {
            below = width_inside head.size from i bundle.within.within inside;
            entries = entries;
            bundle = subst (λ (b : ℕ). IsCheckedBundle H head b entries) (sym (same_bundle from i few)) bundle;
            place = subst (λ (p : ℕ). p < length entries) (sym (next_place from i few)) place;
            is = ap (λ (p : ℕ). slice_index_or entries p []) (next_place from i few) ∙ sym (get_or-drop (from % 256) entries i []);
          };
    }

-- the same of what the code has for the entries
pub rest_of : {X : Type 0} (f : X → Bytes) (H : Digest) (head : Head) (from : ℕ) (xs rest : List X) → rest ≡ take (length xs - from % 256) (drop (from % 256) xs)
    → IsCheckedBundle H head (from / 256) (map f xs) → from % 256 ≤ length xs → AreEntriesBetween H head from (from + length rest) (map f rest)
rest_of f H head from xs rest is bundle within =
    let k = from % 256 in
    let same : map f rest ≡ drop k (map f xs) = ap (map f) (is ∙ take_rest xs k) ∙ sym (drop-map f k xs) in
    let many : length (drop k (map f xs)) ≡ length rest = ap length (sym same) ∙ length-map rest f in
    let between = rest_between H head from (map f xs) bundle (subst (λ (n : ℕ). k ≤ n) (sym (length-map xs f)) within) in
    subst (λ (ys : List Bytes). AreEntriesBetween H head from (from + length rest) ys) (sym same)
    (subst (λ (n : ℕ). AreEntriesBetween H head from (from + n) (drop k (map f xs))) many between)

-- how many entries the code has behind a place
rest_count : {X : Type 0} (xs : List X) (k : ℕ) → length (take (length xs - k) (drop k xs)) ≡ length xs - k
rest_count xs k = ap length (take_rest xs k) ∙ length-drop k xs

-- the next place is further on, and within the log
pub next_further : {X : Type 0} (f : X → Bytes) (size from : ℕ) (xs : List X) → from < size → length (map f xs) ≡ bundle_width size (from / 256)
    → from < from + length (take (length xs - from % 256) (drop (from % 256) xs))
next_further f size from xs below many =
    omega (arith, rest_count xs (from % 256), length-map xs f, many, place_within size from below)

behind_last : (size from : ℕ) → from < size → from + (bundle_width size (from / 256) - from % 256) ≤ size
behind_last size from below = grind arith

pub next_within : {X : Type 0} (f : X → Bytes) (size from : ℕ) (xs : List X) → from < size → length (map f xs) ≡ bundle_width size (from / 256)
    → from + length (take (length xs - from % 256) (drop (from % 256) xs)) ≤ size
next_within f size from xs below many =
    omega (arith, rest_count xs (from % 256), length-map xs f, many, behind_last size from below)

-- the entry at a place of two parts
either_place : (H : Digest) (head : Head) (a b c : ℕ) (xs ys : List Bytes) → AreEntriesBetween H head a b xs → AreEntriesBetween H head b c ys
    → (i : ℕ) → i < length (xs ++ ys) → (i < length xs) ⊎ (length xs ≤ i) → IsCheckedEntry H head (a + i) (slice_index_or (xs ++ ys) i [])
either_place H head a b c xs ys first second i below (inl front) =
    subst (λ (e : Bytes). IsCheckedEntry H head (a + i) e) (sym (get_or_append_left xs ys [] i front)) (first.each i front)
either_place H head a b c xs ys first second i below (inr back) =
    let rest : i - length xs < length ys = omega (arith, below, length-append xs ys, back) in
    let at : b + (i - length xs) ≡ a + i = omega (arith, first.count, back) in
    subst (λ (e : Bytes). IsCheckedEntry H head (a + i) e) (sym (get_or-append_right xs ys (length xs) i [] refl back))
    (subst (λ (n : ℕ). IsCheckedEntry H head n (slice_index_or ys (i - length xs) [])) at (second.each (i - length xs) rest))

-- entries up to one, and from there on
pub between_append : (H : Digest) (head : Head) (a b c : ℕ) (xs ys : List Bytes) → AreEntriesBetween H head a b xs → AreEntriesBetween H head b c ys
    → AreEntriesBetween H head a c (xs ++ ys)
between_append H head a b c xs ys first second =
    record {
      count = omega (arith, length-append xs ys, first.count, second.count);
      each = λ i below. either_place H head a b c xs ys first second i below (cases_lt i (length xs));
    }

-- their lines
pub lines_append : (head : Head) (a b c : ℕ) (t u : Bytes) → AreLinesBetween head a b t → AreLinesBetween head b c u → AreLinesBetween head a c (t ++ u)
lines_append head a b c t u (xs, first, t_is) (ys, second, u_is) = (
  xs ++ ys,
  between_append sha256 head a b c xs ys first second,
  ap (λ (l : Bytes). l ++ u) t_is ∙ ap (λ (l : Bytes). listed_text xs ++ l) u_is ∙ sym (flat_map-append listed xs ys),
)

-- no entries, and no lines
none_below : (i : ℕ) → i < 0 → ⊥
none_below i below = omega (arith, below)

pub lines_none : (head : Head) (a : ℕ) → AreLinesBetween head a a []
lines_none head a = ([], record { count = omega arith; each = λ i below. absurd (none_below i below) }, refl)

pub printed_further : (head : Head) (a b c : ℕ) (o p : Passage) → GoesOn o p → PrintedWhole (AreLinesBetween head a b) o → PrintedWhole (AreLinesBetween head b c) p
    → PrintedWhole (AreLinesBetween head a c) (joined o p)
printed_further head a b c o p on (t, first, wrote) (u, second, more) = (
  t ++ u,
  lines_append head a b c t u first second,
  record {
    appended = Appends-trans o.old o.new p.new t u wrote.appended (subst (λ (k : Option Bytes). Appends k p.new u) (sym on.bytes) more.appended);
    steady = more.steady ∙ sym on.failed ∙ wrote.steady;
  },
)

-- a part of more is printed after it
pub printed_some : (head : Head) (a b : ℕ) (o p : Passage) → GoesOn o p → PrintedWhole (AreLinesBetween head a b) o
    → PrintedSome (λ text. (upto : ℕ) × AreLinesBetween head b upto text) p → PrintedSome (λ text. (upto : ℕ) × AreLinesBetween head a upto text) (joined o p)
printed_some head a b o p on (t, first, wrote) (inl unwritten) =
    inr (t, (b, first), length t, subst (λ (x : Bytes). Appends o.old p.new x) (sym (take-length t)) (Appends-kept o.old o.new p.new t wrote.appended (subst (λ (k : Option Bytes). Keeps k p.new) (sym on.bytes) unwritten.0)))
printed_some head a b o p on (t, first, wrote) (inr (u, (upto, second), count, appended)) =
    inr (
      t ++ u,
      (upto, lines_append head a b upto t u first second),
      length t + count,
      subst (λ (x : Bytes). Appends o.old p.new x) (sym (take-append-add t u count))
          (Appends-trans o.old o.new p.new t (take count u) wrote.appended (subst (λ (k : Option Bytes). Appends k p.new (take count u)) (sym on.bytes) appended)),
    )

-- a text was written, and then some of the first bytes of another
pub part_after : (a b d : Option Bytes) (t u : Bytes) (count : ℕ) → Appends a b t → Appends b d (take count u) → Appends a d (take (length t + count) (t ++ u))
part_after a b d t u count whole part =
    subst (λ (x : Bytes). Appends a d x) (sym (take-append-add t u count)) (Appends-trans a b d t (take count u) whole part)

-- what was appended to nothing
pub after_nothing : (a b c : Bytes) → a ≡ b ++ c → b ≡ [] → a ≡ c
after_nothing a b c e none = e ∙ ap (λ (l : Bytes). l ++ c) none

-- how far a log's entries are printed
pub record IsPrinting (head : Head) (from next : ℕ) (o : Passage) : Type 0 where
  pub printed : PrintedWhole (AreLinesBetween head from next) o
  pub within : next ≤ head.size

-- nothing is printed yet
appends_none : (b : Option Bytes) → Appends b b []
appends_none None = tt
appends_none (Some bytes) = sym (append-nil bytes)

pub printing_none : (head : Head) (from : ℕ) (b : Option Bytes) (f : Bool) → from ≤ head.size
    → IsPrinting head from from (record { old = b; new = b; had_failed = f; has_failed = f })
printing_none head from b f within =
    record { printed = ([], lines_none head from, record { appended = appends_none b; steady = refl }); within = within }

-- a bundle that isn't read is why not all is printed
pub refuses_all : (answers : Resource → Bytes → Type 0) (lacks : Resource → Type 0) (head : Head) (from next : ℕ) (fault : FetchFault) (o p : Passage) → IsPrinting head from next o → next < head.size
    → FailsPrinting (RefusesBundle answers lacks head (next / 256)) fault p → RefusesAll answers lacks head from fault (joined o p)
refuses_all answers lacks head from next fault o p so below (inl write) = inr (inl write)
refuses_all answers lacks head from next fault o p so below (inr (inl memory)) = inr (inr (inl memory))
refuses_all answers lacks head from next fault o p so below (inr (inr (why, refused, told))) =
    let count = so.printed.1.1.count in
    inr (inr (inr (why, (next / 256, record { within = omega (arith, below); later = omega (arith, count) }, refused), told)))
