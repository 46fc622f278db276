-- Bundles: what bytes that end too soon are the beginning of, and that a bundle is read in one way.
use Rattle.std.proofs.Common.{◌≡◌, ℕ, ◌+◌, ◌-◌, ◌*◌, ◌/◌, ◌%◌, ◌^◌, ◌<◌, ◌≤◌, List, [], ◌∷◌, ◌++◌, length, get_or, take, drop, replicate, refl, sym, ap, subst, ◌∙◌, append_assoc, arith, inl, inr, All, Any, map, vec_items}
use Rattle.std.specs.Prelude.{◌≢◌}
use Rattle.std.specs.declared.vec.Vec.{Vec}
use Rattle.std.specs.Int.{w16, to_be_bytes, from_be_bytes}
use Rattle.std.proofs.lemmas.Bool.{cases_lt}
use Rattle.std.proofs.lemmas.List.{append-nil, length-append, length-take, get_or-take, get_or_past, take-append-drop, length-replicate, take_at, drop_at, map-append, length-map, get_or-map, take_more, take_all}
use Rattle.std.proofs.lemmas.Nat.{be_bytes_2, from_be_bytes-to_be_bytes_2}
use Rattle.std.proofs.lemmas.Grind.{flat_map-append}
use Rattle.std.proofs.lemmas.List.Concat.{flat_map-cons}
use Rattle.std.proofs.lemmas.List.Elements.{All-append, All-cons, All-replicate, All-nil, All-push, All-head, All-tail}
use Rattle.tl_tile.specs.Inner.Law.{BundlesAreOne, BundleFaultsApart}
use Rattle.tl_tile.specs.Bundle.{most_entry, bundled_entry, bundle_text, IsShortEntry, AreShortEntries, AreEntries, IsPartialEntry, IsBundle, IsTruncated, HasTrailing}

abbrev pub IsBytes : List ℕ → Type 0
IsBytes bytes = (i : ℕ) → get_or bytes i 0 < 256

not_nil : (xs : List ℕ) → 0 < length xs → xs ≢ []
not_nil xs some e = absurd (omega (arith, ap length e))

-- bytes, more of which are the length and the bytes of an entry
begins : (bytes entry front rest : List ℕ) → IsShortEntry entry → to_be_bytes w16 (length entry) ≡ front → front ++ entry ≡ bytes ++ rest → 0 < length rest → IsPartialEntry bytes
begins bytes entry front rest short len joined some = (entry, short, record { rest = rest; joined = ap (λ (f : List ℕ). f ++ entry) len ∙ joined; more = not_nil rest some })

pub partial_length : (bytes : List ℕ) → IsBytes bytes → length bytes < 2 → IsPartialEntry bytes
partial_length [] fits few = begins [] [] (0 ∷ 0 ∷ []) (0 ∷ 0 ∷ []) (omega arith) refl refl (omega arith)
partial_length (b ∷ []) fits few =
    let small : b < 256 = fits 0 in
    let zeros : List ℕ = replicate (b * 256) 0 in
    let len : length zeros ≡ b * 256 = length-replicate {A = ℕ} (b * 256) 0 in
    let high : b * 256 / 256 % 256 ≡ b = omega arith in
    let low : b * 256 % 256 ≡ 0 = omega arith in
    begins (b ∷ []) zeros (b ∷ 0 ∷ []) (0 ∷ zeros) (omega arith) (rw (len, high, low) refl) refl (omega arith)
partial_length (a ∷ b ∷ bytes) fits few = absurd (omega arith)

pub partial_entry : (front rest : List ℕ) (n : ℕ) → IsBytes front → length front ≡ 2 → n < 2 ^ 16 → n ≡ from_be_bytes w16 front → length rest < n → IsPartialEntry (front ++ rest)
partial_entry front rest n fits two small is few =
    let filled : List ℕ = rest ++ replicate (n - length rest) 0 in
    let len : length filled ≡ n = omega (arith, length-append rest (replicate (n - length rest) 0), length-replicate {A = ℕ} (n - length rest) 0) in
    begins (front ++ rest) filled front (replicate (n - length rest) 0) (omega arith) (rw len (be_bytes_2 front n two fits is)) (sym (append_assoc front rest (replicate (n - length rest) 0))) (omega (arith, length-replicate {A = ℕ} (n - length rest) 0))

-- ---- one entry after another

pub bundle_text-push : (es : List (List ℕ)) (e rest : List ℕ) → bundle_text es ++ (bundled_entry e ++ rest) ≡ bundle_text (es ++ e ∷ []) ++ rest
bundle_text-push es e rest =
    let one : bundle_text (e ∷ []) ≡ bundled_entry e = append-nil (bundled_entry e) in
    let all : bundle_text (es ++ e ∷ []) ≡ bundle_text es ++ bundled_entry e = flat_map-append bundled_entry es (e ∷ []) ∙ ap (λ (t : List ℕ). bundle_text es ++ t) one in
    sym (append_assoc (bundle_text es) (bundled_entry e) rest) ∙ ap (λ (t : List ℕ). t ++ rest) (sym all)

append_not_nil : (xs ys : List ℕ) → xs ≢ [] → xs ++ ys ≢ []
append_not_nil [] ys some e = some refl
append_not_nil (x ∷ xs) ys some e = absurd cc

-- if an entry ends too soon, a bundle does: empty entries fill it
pub truncated_at : (bytes : List ℕ) (width : ℕ) (es : List (List ℕ)) (rest : List ℕ) → bytes ≡ bundle_text es ++ rest → AreShortEntries es → length es < width → IsPartialEntry rest → IsTruncated bytes width
truncated_at bytes width es rest joined short few (e, short_e, partial) =
    let fill : List (List ℕ) = replicate (width - (length es + 1)) [] in
    let all : List (List ℕ) = es ++ e ∷ fill in
    let more = partial.rest in
    let regrouped : bundle_text all ≡ bundle_text es ++ (bundled_entry e ++ bundle_text fill) = flat_map-append bundled_entry es (e ∷ fill) ∙ ap (λ (t : List ℕ). bundle_text es ++ t) (flat_map-cons bundled_entry e fill) in
    let opened : bundle_text all ≡ bundle_text es ++ ((rest ++ more) ++ bundle_text fill) = regrouped ∙ ap (λ (t : List ℕ). bundle_text es ++ (t ++ bundle_text fill)) partial.joined in
    let inner : bundle_text es ++ ((rest ++ more) ++ bundle_text fill) ≡ (bundle_text es ++ rest) ++ (more ++ bundle_text fill) = simp append_assoc in
    let whole : bundle_text all ≡ bytes ++ (more ++ bundle_text fill) = opened ∙ inner ∙ ap (λ (t : List ℕ). t ++ (more ++ bundle_text fill)) (sym joined) in
    let fill_short : All IsShortEntry fill = All-replicate IsShortEntry (width - (length es + 1)) [] (omega arith) in
    let count : length all ≡ width = omega (arith, length-append es (e ∷ fill), length-replicate {A = List ℕ} (width - (length es + 1)) []) in
    (all, record { short = All-append IsShortEntry es (e ∷ fill) short (All-cons IsShortEntry e fill short_e fill_short); count = count }, record { rest = more ++ bundle_text fill; joined = whole; more = append_not_nil more (bundle_text fill) partial.more })

-- this many entries were read, and the rest is left
pub record HasRead (bytes : List ℕ) (count : ℕ) (es : List (List ℕ)) (rest : List ℕ) : Type 0 where
  pub joined : bytes ≡ bundle_text es ++ rest
  pub short : AreShortEntries es
  pub len : length es ≡ count

pub has_read_none : (bytes : List ℕ) → HasRead bytes 0 [] bytes
has_read_none bytes = record { joined = refl; short = All-nil IsShortEntry; len = refl }

pub has_read_more : (bytes : List ℕ) (count : ℕ) (es : List (List ℕ)) (rest e after : List ℕ) → HasRead bytes count es rest → IsShortEntry e → rest ≡ bundled_entry e ++ after → HasRead bytes (count + 1) (es ++ e ∷ []) after
has_read_more bytes count es rest e after so_far short is = record {
  joined = so_far.joined ∙ ap (λ (t : List ℕ). bundle_text es ++ t) is ∙ bundle_text-push es e after;
  short = All-push IsShortEntry es e so_far.short short;
  len = omega (arith, so_far.len, length-append es (e ∷ []));
}

-- the same, if the entries are in memory
pub has_read_one : {A : Type 0} (bytes : List ℕ) (count : ℕ) (old new : List (Vec ℕ A)) (v : Vec ℕ A) (rest e after : List ℕ) → HasRead bytes count (map vec_items old) rest → IsShortEntry e
    → rest ≡ bundled_entry e ++ after → v.items ≡ e → new ≡ old ++ v ∷ [] → HasRead bytes (count + 1) (map vec_items new) after
has_read_one bytes count old new v rest e after so_far short is copied pushed =
    let read : map vec_items new ≡ map vec_items old ++ e ∷ [] =
    ap (map vec_items) pushed ∙ map-append vec_items old (v ∷ []) ∙ ap (λ (x : List ℕ). map vec_items old ++ x ∷ []) copied in
    subst (λ (es : List (List ℕ)). HasRead bytes (count + 1) es after) (sym read) (has_read_more bytes count (map vec_items old) rest e after so_far short is)

pub all_read : (bytes : List ℕ) (count : ℕ) (es : List (List ℕ)) (rest : List ℕ) → HasRead bytes count es rest → length rest ≡ 0 → AreEntries count es × (bytes ≡ bundle_text es)
all_read bytes count es [] read none = (record { short = read.short; count = read.len }, read.joined ∙ append-nil (bundle_text es))
all_read bytes count es (b ∷ rest) read none = absurd (omega (arith, none))

-- ---- writing

pub too_long_at : {A : Type 0} (entries : List (Vec ℕ A)) (i : ℕ) (v : Vec ℕ A) → i < length entries → v ≡ get_or entries i v → most_entry < length v.items
    → Any (λ entry. most_entry < length entry) (map vec_items entries)
too_long_at entries i v less at long = (i, v.items, omega (arith, less, length-map entries vec_items), get_or-map vec_items entries i v v.items less ∙ ap vec_items (sym at), long)

-- the entries up to the next
entries_more : {A : Type 0} (entries : List (Vec ℕ A)) (i : ℕ) (v : Vec ℕ A) → i < length entries → v ≡ get_or entries i v
    → map vec_items (take (i + 1) entries) ≡ map vec_items (take i entries) ++ v.items ∷ []
entries_more entries i v less at =
    let one : take (i + 1) entries ≡ take i entries ++ v ∷ [] = take_more entries i v less ∙ ap (λ (x : _). take i entries ++ x ∷ []) (sym at) in
    ap (map vec_items) one ∙ map-append vec_items (take i entries) (v ∷ [])

pub short_more : {A : Type 0} (entries : List (Vec ℕ A)) (i : ℕ) (v : Vec ℕ A) → i < length entries → v ≡ get_or entries i v → length v.items ≤ most_entry
    → AreShortEntries (map vec_items (take i entries)) → AreShortEntries (map vec_items (take (i + 1) entries))
short_more entries i v less at short so_far =
    subst AreShortEntries (sym (entries_more entries i v less at)) (All-push IsShortEntry (map vec_items (take i entries)) v.items so_far short)

pub short_all : {A : Type 0} (entries : List (Vec ℕ A)) (i : ℕ) → length entries ≤ i → AreShortEntries (map vec_items (take i entries)) → AreShortEntries (map vec_items entries)
short_all entries i over so_far = subst (λ (list : List (Vec ℕ _)). AreShortEntries (map vec_items list)) (take_all i entries over) so_far

pub short_at : {A : Type 0} (entries : List (Vec ℕ A)) (i : ℕ) (v : Vec ℕ A) → i < length entries → v ≡ get_or entries i v → AreShortEntries (map vec_items entries) → IsShortEntry v.items
short_at entries i v less at short =
    subst IsShortEntry (get_or-map vec_items entries i v v.items less ∙ ap vec_items (sym at)) (short i v.items (omega (arith, less, length-map entries vec_items)))

pub written_more : {A : Type 0} (entries : List (Vec ℕ A)) (i : ℕ) (v : Vec ℕ A) (before after : List ℕ) → i < length entries → v ≡ get_or entries i v
    → before ≡ bundle_text (map vec_items (take i entries)) → after ≡ before ++ bundled_entry v.items → after ≡ bundle_text (map vec_items (take (i + 1) entries))
written_more entries i v before after less at so_far added =
    let text : bundle_text (map vec_items (take i entries) ++ v.items ∷ []) ≡ before ++ bundled_entry v.items =
    flat_map-append bundled_entry (map vec_items (take i entries)) (v.items ∷ []) ∙ ap (λ (t : List ℕ). t ++ (bundled_entry v.items ++ [])) (sym so_far) ∙ ap (λ (t : List ℕ). before ++ t) (append-nil (bundled_entry v.items)) in
    added ∙ sym text ∙ ap bundle_text (sym (entries_more entries i v less at))

pub partial_at : (bytes front rest : List ℕ) (n : ℕ) → IsBytes bytes → 2 ≤ length bytes → front ≡ take 2 bytes → rest ≡ drop 2 bytes → n < 2 ^ 16
    → n ≡ get_or front 0 0 * 256 + get_or front 1 0 → length rest < n → IsPartialEntry bytes
partial_at bytes front rest n fits long front-is rest-is small is few =
    let fits_front : IsBytes (take 2 bytes) = λ i. elim (cases_lt i 2) [
      | inl lt ↦ rw (get_or-take 2 bytes i 0 lt) (fits i)
      | inr le ↦ rw (get_or_past (take 2 bytes) i 0 (omega (arith, length-take 2 bytes))) (omega arith)
    ] in
    let value : n ≡ from_be_bytes w16 (take 2 bytes) = is ∙ ap (λ (f : List ℕ). get_or f 0 0 * 256 + get_or f 1 0) front-is in
    let whole = partial_entry (take 2 bytes) (drop 2 bytes) n fits_front (omega (arith, length-take 2 bytes)) small value (omega (arith, ap length rest-is)) in
    subst IsPartialEntry (take-append-drop 2 bytes) whole

-- ---- one reading

-- the entries at the front of a text are one list, whatever follows
pub one_bundle : (cs bs : List (List ℕ)) (x y : List ℕ) → AreShortEntries cs → AreShortEntries bs → length cs ≡ length bs → bundle_text cs ++ x ≡ bundle_text bs ++ y → (cs ≡ bs) × (x ≡ y)
one_bundle [] [] x y sa sb len e = (refl, e)
one_bundle [] (b ∷ bs) x y sa sb len e = absurd (omega arith)
one_bundle (a ∷ cs) [] x y sa sb len e = absurd (omega arith)
one_bundle (a ∷ cs) (b ∷ bs) x y sa sb len e =
    let left : bundle_text (a ∷ cs) ++ x ≡ to_be_bytes w16 (length a) ++ (a ++ (bundle_text cs ++ x)) = ap (λ (t : List ℕ). t ++ x) (flat_map-cons bundled_entry a cs) ∙ simp append_assoc in
    let right : bundle_text (b ∷ bs) ++ y ≡ to_be_bytes w16 (length b) ++ (b ++ (bundle_text bs ++ y)) = ap (λ (t : List ℕ). t ++ y) (flat_map-cons bundled_entry b bs) ∙ simp append_assoc in
    let same : to_be_bytes w16 (length a) ++ (a ++ (bundle_text cs ++ x)) ≡ to_be_bytes w16 (length b) ++ (b ++ (bundle_text bs ++ y)) = sym left ∙ e ∙ right in
    let small_a : length a < 2 ^ 16 = omega (arith, All-head IsShortEntry a cs sa) in
    let small_b : length b < 2 ^ 16 = omega (arith, All-head IsShortEntry b bs sb) in
    let heads : to_be_bytes w16 (length a) ≡ to_be_bytes w16 (length b) = ap (take 2) same in
    let len_ab : length a ≡ length b = sym (from_be_bytes-to_be_bytes_2 (length a) small_a) ∙ ap (from_be_bytes w16) heads ∙ from_be_bytes-to_be_bytes_2 (length b) small_b in
    let tails : a ++ (bundle_text cs ++ x) ≡ b ++ (bundle_text bs ++ y) = ap (drop 2) same in
    let first : a ≡ b = sym (take_at a (bundle_text cs ++ x) (length a) refl) ∙ ap (take (length a)) tails ∙ take_at b (bundle_text bs ++ y) (length a) (sym len_ab) in
    let after : bundle_text cs ++ x ≡ bundle_text bs ++ y = sym (drop_at a (bundle_text cs ++ x) (length a) refl) ∙ ap (drop (length a)) tails ∙ drop_at b (bundle_text bs ++ y) (length a) (sym len_ab) in
    let others = one_bundle cs bs x y (All-tail IsShortEntry a cs sa) (All-tail IsShortEntry b bs sb) (omega arith) after in
    (ap (λ (c : List ℕ). c ∷ cs) first ∙ ap (λ (ds : List (List ℕ)). b ∷ ds) others.0, others.1)

-- a bundle that goes on with something else is no bundle of cs many entries
no_longer : (cs bs : List (List ℕ)) (x : List ℕ) → AreShortEntries cs → AreShortEntries bs → length cs ≡ length bs → bundle_text cs ++ x ≡ bundle_text bs → x ≡ []
no_longer cs bs x short_a short_b len e = (one_bundle cs bs x [] short_a short_b len (e ∙ sym (append-nil (bundle_text bs)))).1

pub bundles_are_one : BundlesAreOne
bundles_are_one bytes width entries is spelled = record {
  alone = λ others them e. (one_bundle others entries [] [] them.short is.short (them.count ∙ sym is.count) (ap (λ (t : List ℕ). t ++ []) (sym e ∙ spelled))).0;
  whole = λ (others, them, longer). longer.more (no_longer entries others longer.rest is.short them.short (is.count ∙ sym them.count) (ap (λ (t : List ℕ). t ++ longer.rest) (sym spelled) ∙ sym longer.joined));
  ended = λ (others, them, longer). longer.more (no_longer others entries longer.rest them.short is.short (them.count ∙ sym is.count) (sym longer.joined ∙ spelled));
}

-- reading a bundle ends at its end
pub not_truncated : (bytes : List ℕ) (width : ℕ) → IsBundle bytes width → IsTruncated bytes width → ⊥
not_truncated bytes width (entries, are, spelled) ends = (bundles_are_one bytes width entries are spelled).whole ends

pub read_whole : (bytes : List ℕ) (width : ℕ) (es : List (List ℕ)) (rest : List ℕ) → IsBundle bytes width → HasRead bytes width es rest → AreEntries width es × (bytes ≡ bundle_text es)
read_whole bytes width es [] whole read = all_read bytes width es [] read refl
read_whole bytes width es (b ∷ rest) (entries, are, spelled) read =
    let trailing : HasTrailing bytes width = (es, record { short = read.short; count = read.len }, record { rest = b ∷ rest; joined = read.joined; more = not_nil (b ∷ rest) (omega arith) }) in
    absurd ((bundles_are_one bytes width entries are spelled).ended trailing)

pub faults_apart : BundleFaultsApart
faults_apart bytes width (cs, is_a, within) (bs, is_b, past) =
    let joined : bundle_text bs ++ (past.rest ++ within.rest) ≡ bundle_text cs = sym (append_assoc (bundle_text bs) past.rest within.rest) ∙ ap (λ (t : List ℕ). t ++ within.rest) (sym past.joined) ∙ sym within.joined in
    let none : past.rest ++ within.rest ≡ [] = no_longer bs cs (past.rest ++ within.rest) is_b.short is_a.short (is_b.count ∙ sym is_a.count) joined in
    append_not_nil past.rest within.rest past.more none
