-- Entries one after another, each with its length before it.
use Rattle.std.proofs.Common.{◌≡◌, ℕ, ◌<◌, inl, inr, List, [], ◌∷◌, ◌++◌, length, take, drop, refl, sym, ap, ◌∙◌, append_assoc, append-nil, arith}
use Rattle.std.specs.Prelude.{◌≢◌}
use Rattle.std.proofs.lemmas.Bool.{cases_lt}
use Rattle.std.proofs.lemmas.List.{length-append, length-take-le, length-drop, take-append-drop}
use Rattle.std.proofs.lemmas.List.Concat.{flat_map-cons}
use Rattle.std.proofs.lemmas.Grind.{flat_map-append}
use Rattle.std.proofs.lemmas.List.Elements.{All-take, All-drop, All-head}
use Rattle.std.specs.Int.{w16, to_be_bytes}
use Rattle.tl_hash.specs.Bytes.{Bytes}
use Rattle.tl_tile.specs.Bundle.{bundled_entry, bundle_text, IsShortEntry, AreShortEntries}
use Rattle.tl_tile.proofs.BundleLemmas.{HasRead, one_bundle}
use Rattle.tl_bucket.specs.Commits.{IsBehind}

-- no entry begins the bytes
abbrev pub HasNoEntry : Bytes → Type 0
HasNoEntry bytes = (entry rest : Bytes) → IsShortEntry entry → bytes ≢ bundled_entry entry ++ rest

-- if fewer entries than all were read, another one follows
next_entry : (count : ℕ) (bytes rest tail : Bytes) (read all : List Bytes) → HasRead bytes count read rest → AreShortEntries all → bytes ≡ bundle_text all ++ tail → count < length all → HasNoEntry rest → ⊥
next_entry count bytes rest tail read all so_far short spelled more none =
    go (drop count all) (omega (arith, length-drop count all)) (All-drop IsShortEntry count all short) refl
  where
    go : (left : List Bytes) → 0 < length left → AreShortEntries left → drop count all ≡ left → ⊥
    go [] some fits is = absurd (omega arith)
    go (e ∷ es) some fits is =
        let cut : bundle_text all ≡ bundle_text (take count all) ++ bundle_text (e ∷ es) =
        ap bundle_text (sym (take-append-drop count all) ∙ ap (λ (xs : List Bytes). take count all ++ xs) is) ∙ flat_map-append bundled_entry (take count all) (e ∷ es) in
        let whole : bundle_text read ++ rest ≡ bundle_text (take count all) ++ (bundle_text (e ∷ es) ++ tail) =
        sym so_far.joined ∙ spelled ∙ ap (λ (t : Bytes). t ++ tail) cut ∙ append_assoc (bundle_text (take count all)) (bundle_text (e ∷ es)) tail in
        let same = one_bundle read (take count all) rest (bundle_text (e ∷ es) ++ tail) so_far.short (All-take IsShortEntry count all short) (omega (arith, so_far.len, length-take-le count all)) whole in
        let at : rest ≡ bundled_entry e ++ (bundle_text es ++ tail) = same.1 ∙ ap (λ (t : Bytes). t ++ tail) (flat_map-cons bundled_entry e es) ∙ append_assoc (bundled_entry e) (bundle_text es) tail in
        none e (bundle_text es ++ tail) (All-head IsShortEntry e es fits) at

pub none_behind : (count width : ℕ) (bytes rest tail : Bytes) (read : List Bytes) → HasRead bytes count read rest → count < width → HasNoEntry rest → ¬ (IsBehind bytes width tail)
none_behind count width bytes rest tail read so_far less none is = next_entry count bytes rest tail read is.entries so_far is.short is.spelled (omega (arith, is.counted)) none

-- if bytes are left, fewer entries than all were read
more_left : (count : ℕ) (bytes rest : Bytes) (read all : List Bytes) → HasRead bytes count read rest → AreShortEntries all → bytes ≡ bundle_text all → 0 < length rest → count < length all
more_left count bytes rest read all so_far short spelled some = elim (cases_lt count (length all)) [
  | inl less ↦ less
  | inr over ↦
      let n : ℕ = length all in
      let cut : bundle_text read ≡ bundle_text (take n read) ++ bundle_text (drop n read) = ap bundle_text (sym (take-append-drop n read)) ∙ flat_map-append bundled_entry (take n read) (drop n read) in
      let whole : bundle_text all ++ [] ≡ bundle_text (take n read) ++ (bundle_text (drop n read) ++ rest) =
      append-nil (bundle_text all) ∙ sym spelled ∙ so_far.joined ∙ ap (λ (t : Bytes). t ++ rest) cut ∙ append_assoc (bundle_text (take n read)) (bundle_text (drop n read)) rest in
      let same = one_bundle all (take n read) [] (bundle_text (drop n read) ++ rest) short (All-take IsShortEntry n read so_far.short) (sym (length-take-le n read (omega (arith, so_far.len)))) whole in
      absurd (omega (arith, ap length same.1, length-append (bundle_text (drop n read)) rest))
]

pub no_entries : (count : ℕ) (bytes rest : Bytes) (read all : List Bytes) → HasRead bytes count read rest → 0 < length rest → HasNoEntry rest → AreShortEntries all → bytes ≢ bundle_text all
no_entries count bytes rest read all so_far some none short spelled =
    next_entry count bytes rest [] read all so_far short (spelled ∙ sym (append-nil (bundle_text all))) (more_left count bytes rest read all so_far short spelled some) none

-- ---- one reading

none_in_nothing : HasNoEntry []
none_in_nothing e rest short is = absurd (omega (arith, ap length is, length-append (bundled_entry e) rest, length-append (to_be_bytes w16 (length e)) e))

-- lists of different lengths have different bytes
no_more : (es fs : List Bytes) → AreShortEntries es → AreShortEntries fs → bundle_text es ≡ bundle_text fs → length es < length fs → ⊥
no_more es fs short_e short_f same less =
    let read : HasRead (bundle_text es) (length es) es [] = record { joined = sym (append-nil (bundle_text es)); short = short_e; len = refl } in
    next_entry (length es) (bundle_text es) [] [] es fs read short_f (same ∙ sym (append-nil (bundle_text fs))) less none_in_nothing

pub one_list : (es fs : List Bytes) → AreShortEntries es → AreShortEntries fs → bundle_text es ≡ bundle_text fs → es ≡ fs
one_list es fs short_e short_f same = elim (cases_lt (length es) (length fs)) [
  | inl less ↦ absurd (no_more es fs short_e short_f same less)
  | inr over ↦ elim (cases_lt (length fs) (length es)) [
    | inl less ↦ absurd (no_more fs es short_f short_e (sym same) less)
    | inr back ↦ (one_bundle es fs [] [] short_e short_f (omega arith) (ap (λ (t : Bytes). t ++ []) same)).0
  ]
]

pub one_rest : (bytes : Bytes) (count : ℕ) (x y : Bytes) → IsBehind bytes count x → IsBehind bytes count y → x ≡ y
one_rest bytes count x y left right =
    (one_bundle left.entries right.entries x y left.short right.short (left.counted ∙ sym right.counted) (sym left.spelled ∙ right.spelled)).1
