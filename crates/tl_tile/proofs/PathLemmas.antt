-- Paths: what the digits of a path write, and the groups of an index one by one.
use Rattle.std.proofs.Common.{◌≡◌, ℕ, ◌+◌, ◌*◌, ◌/◌, ◌%◌, ◌^◌, ◌<◌, ◌≤◌, Bool, true, false, eqb, ltb, leb, List, [], ◌∷◌, ◌++◌, length, refl, sym, ap, ◌∙◌, append_assoc, arith, inl, inr, Option, Some, None}
use Rattle.std.specs.Prelude.{◌≢◌, decimal, codes, not, MatchOption, IfNone, bytes_eq}
use Rattle.std.specs.List.{flat_map}
use Rattle.std.specs.Int.Digits.{digits_of, number_from_digits_after, number_from_digits, AllBelowBase}
use Rattle.std.proofs.lemmas.Bool.{cases_lt, cases_eq, ne_eqb, le-leb, lt-ltb}
use Rattle.std.proofs.lemmas.List.{append-nil, append_cancel_left}
use Rattle.std.proofs.lemmas.Int.Digits.{digits_of_step, all_below_base_digits_of, number_digits_of, number_after_ge}
use Rattle.std.proofs.lemmas.Grind.{flat_map-append}
use Rattle.std.proofs.lemmas.List.Concat.{flat_map-cons}
use Rattle.std.proofs.lemmas.Fmt.{decimal_by_steps}
use Rattle.std.proofs.lemmas.Slice.Eq.{bytes_eq-Decides}
use Rattle.tl_tile.specs.declared.resource.Resource.{Resource}
use Rattle.tl_tile.specs.declared.resource.Resource.TheVariants as resource
use Rattle.tl_tile.specs.Path.{IsResource, path_text, three_digits, marked_group, index_text, width_text, piece_text}
use Rattle.tl_tile.specs.Inner.ReadPath.{leading_number, leading_groups, Strips, HasNoWidth, HasNoPiece, HasNoTile, IsTilePath, tile_piece_text}

-- ---- groups

pub leading_groups_step : (n : ℕ) → 0 < n → leading_groups n ≡ leading_groups (n / 1000) ++ marked_group (n % 1000)
leading_groups_step n some =
    ap (flat_map marked_group) (digits_of_step 1000 n (omega arith) some) ∙ flat_map-append marked_group (digits_of 1000 (n / 1000)) (n % 1000 ∷ [])
    ∙ ap (λ (t : List ℕ). leading_groups (n / 1000) ++ t) (append-nil (marked_group (n % 1000)))

pub pushed_groups : (old mid new : List ℕ) (n : ℕ) → 0 < n → mid ≡ old ++ leading_groups (n / 1000) → new ≡ mid ++ marked_group (n % 1000) → new ≡ old ++ leading_groups n
pushed_groups old mid new n some first second =
    second ∙ ap (λ (t : List ℕ). t ++ marked_group (n % 1000)) first ∙ append_assoc old (leading_groups (n / 1000)) (marked_group (n % 1000))
    ∙ ap (λ (t : List ℕ). old ++ t) (sym (leading_groups_step n some))

-- ---- digits

pub number_digit : (m d b : ℕ) (bytes : List ℕ) → d < 10 → b ≡ 48 + d → m < 2 ^ 56 → leading_number m (b ∷ bytes) ≡ leading_number (m * 10 + d) bytes
number_digit m d b bytes small is room =
    let not_dot : eqb b 46 ≡ false = ne_eqb b 46 (λ e. omega arith) in
    let low : leb 48 b ≡ true = le-leb 48 b (omega arith) in
    let high : leb b 57 ≡ true = le-leb b 57 (omega arith) in
    let fits : ltb m (2 ^ 56) ≡ true = lt-ltb m (2 ^ 56) room in
    rw (not_dot, low, high, fits) (ap (λ (n : ℕ). leading_number n bytes) (omega arith))

number_group : (m g : ℕ) (bytes : List ℕ) → g < 1000 → m * 1000 + g < 2 ^ 56 → leading_number m (three_digits g ++ bytes) ≡ leading_number (m * 1000 + g) bytes
number_group m g bytes small room =
    let tens : List ℕ = (48 + g / 10 % 10) ∷ (48 + g % 10) ∷ bytes in
    let ones : List ℕ = (48 + g % 10) ∷ bytes in
    number_digit m (g / 100) (48 + g / 100) tens (omega arith) refl (omega arith)
    ∙ number_digit (m * 10 + g / 100) (g / 10 % 10) (48 + g / 10 % 10) ones (omega arith) refl (omega arith)
    ∙ number_digit ((m * 10 + g / 100) * 10 + g / 10 % 10) (g % 10) (48 + g % 10) bytes (omega arith) refl (omega arith)
    ∙ ap (λ (n : ℕ). leading_number n bytes) (omega arith)

number_marked : (m g : ℕ) (bytes : List ℕ) → g < 1000 → m * 1000 + g < 2 ^ 56 → leading_number m (marked_group g ++ bytes) ≡ leading_number (m * 1000 + g) bytes
number_marked m g bytes small room = number_group m g (47 ∷ bytes) small room

number_groups : (m : ℕ) (groups bytes : List ℕ) → AllBelowBase 1000 groups → number_from_digits_after 1000 m groups < 2 ^ 56
    → leading_number m (flat_map marked_group groups ++ bytes) ≡ leading_number (number_from_digits_after 1000 m groups) bytes
number_groups m [] bytes below room = refl
number_groups m (g ∷ groups) bytes below room =
    let regrouped : flat_map marked_group (g ∷ groups) ++ bytes ≡ marked_group g ++ (flat_map marked_group groups ++ bytes) =
    ap (λ (t : List ℕ). t ++ bytes) (flat_map-cons marked_group g groups) ∙ append_assoc (marked_group g) (flat_map marked_group groups) bytes in
    ap (leading_number m) regrouped
    ∙ number_marked m g (flat_map marked_group groups ++ bytes) below.0 (omega (arith, number_after_ge 1000 (m * 1000 + g) groups (omega arith)))
    ∙ number_groups (m * 1000 + g) groups bytes below.1 room

-- the digits before the first dot of an index and what follows write the index
number_index : (n : ℕ) (bytes : List ℕ) → n < 2 ^ 56 → leading_number 0 (index_text n ++ bytes) ≡ leading_number n bytes
number_index n bytes room =
    let high : number_from_digits 1000 (digits_of 1000 (n / 1000)) ≡ n / 1000 = number_digits_of 1000 (n / 1000) (omega arith) in
    ap (leading_number 0) (append_assoc (leading_groups (n / 1000)) (three_digits (n % 1000)) bytes)
    ∙ number_groups 0 (digits_of 1000 (n / 1000)) (three_digits (n % 1000) ++ bytes) (all_below_base_digits_of 1000 (n / 1000) (omega arith)) (omega (arith, high))
    ∙ ap (λ (k : ℕ). leading_number k (three_digits (n % 1000) ++ bytes)) high
    ∙ number_group (n / 1000) (n % 1000) bytes (omega arith) (omega arith)
    ∙ ap (λ (k : ℕ). leading_number k bytes) (omega arith)

-- a number in decimal
abbrev WritesNumber : ℕ → List ℕ → Type 0
WritesNumber n digits = (bytes : List ℕ) → n < 2 ^ 56 → leading_number 0 (digits ++ bytes) ≡ leading_number n bytes

pub number_decimal : (n : ℕ) → n < 2 ^ 56 → leading_number 0 (decimal n) ≡ n
number_decimal n small =
    let writes : WritesNumber n (decimal n) = decimal_by_steps WritesNumber
    (λ k few bytes room. number_digit 0 k (48 + k) bytes few refl (omega arith) ∙ ap (λ (m : ℕ). leading_number m bytes) (omega arith))
    (λ k digits more before bytes room.
    ap (leading_number 0) (append_assoc digits ((48 + k % 10) ∷ []) bytes)
    ∙ before ((48 + k % 10) ∷ bytes) (omega arith)
    ∙ number_digit (k / 10) (k % 10) (48 + k % 10) bytes (omega arith) refl (omega arith)
    ∙ ap (λ (m : ℕ). leading_number m bytes) (omega arith))
    n (omega arith) in
    ap (leading_number 0) (sym (append-nil (decimal n))) ∙ writes [] small

-- ---- one beginning after another

pub strips_then : {X : Type 0} (now : X → List ℕ) (bytes a b rest : List ℕ) (r : Option X) → bytes ≡ a ++ rest → Strips now rest b r → Strips now bytes (a ++ b) r
strips_then now bytes a b rest None is stripped = λ more e. stripped more (append_cancel_left a rest (b ++ more) (sym is ∙ e ∙ append_assoc a b more))
strips_then now bytes a b rest (Some x) is stripped = is ∙ ap (λ (t : List ℕ). a ++ t) stripped ∙ sym (append_assoc a b (now x))

pub strips_not : (bytes a b : List ℕ) → ((rest : List ℕ) → bytes ≢ a ++ rest) → (rest : List ℕ) → bytes ≢ (a ++ b) ++ rest
strips_not bytes a b apart rest e = apart (b ++ rest) (e ∙ append_assoc a b rest)

-- ---- no width and no place

pub full_width : (w : ℕ) → w ≡ 256 → width_text w ≡ []
full_width w e = ap width_text e

part_text : (w : ℕ) → (w ≡ 256 → ⊥) → width_text w ≡ codes ".p/" ++ decimal w
part_text w other = rw (ne_eqb w 256 other) refl

pub part_width : (w : ℕ) → w < 256 → width_text w ≡ codes ".p/" ++ decimal w
part_width w few = rw (ne_eqb w 256 (omega arith)) refl

number_suffix : (n width : ℕ) → leading_number n (width_text width) ≡ n
number_suffix n width = elim (cases_eq width 256) [
  | inl same ↦ ap (λ (t : List ℕ). leading_number n t) (full_width width same)
  | inr other ↦ ap (λ (t : List ℕ). leading_number n t) (part_text width other)
]

-- what follows an index has a digit before its first dot
pub number_place : (index width : ℕ) → index < 2 ^ 56 → leading_number 0 (piece_text index width) ≡ index
number_place index width room = number_index index (width_text width) room ∙ number_suffix index width

pub no_width_at : (bytes digits : List ℕ) (width : ℕ) → 0 < length bytes → bytes ≡ codes ".p/" ++ digits → width ≡ leading_number 0 digits → ((0 < width) → (width ≤ 255) → digits ≢ decimal width) → HasNoWidth bytes
no_width_at bytes digits width some is number apart w low high e = elim (cases_lt w 256) [
  | inl few ↦
      let same : digits ≡ decimal w = append_cancel_left (codes ".p/") digits (decimal w) (sym is ∙ e ∙ part_width w few) in
      let value : width ≡ w = number ∙ ap (leading_number 0) same ∙ number_decimal w (omega arith) in
      apart (omega arith) (omega arith) (same ∙ ap decimal (sym value))
  | inr full ↦ absurd (omega (arith, ap length (e ∙ full_width w (omega arith))))
]

pub no_place_past : (bytes : List ℕ) (n : ℕ) → n ≡ leading_number 0 bytes → 2 ^ 56 ≤ n → HasNoPiece bytes
no_place_past bytes n is big index width room low high e = absurd (omega (arith, is, ap (leading_number 0) e, number_place index width room))

pub no_place_at : (bytes : List ℕ) (n : ℕ) → n ≡ leading_number 0 bytes → ((rest : List ℕ) → bytes ≢ index_text n ++ rest) → HasNoPiece bytes
no_place_at bytes n is apart index width room low high e =
    let same : n ≡ index = is ∙ ap (leading_number 0) e ∙ number_place index width room in
    apart (width_text width) (e ∙ ap (λ (k : ℕ). piece_text k width) (sym same))

pub no_place_width : (bytes rest : List ℕ) (n : ℕ) → n ≡ leading_number 0 bytes → bytes ≡ index_text n ++ rest → HasNoWidth rest → HasNoPiece bytes
no_place_width bytes rest n is joined apart index width room low high e =
    let same : n ≡ index = is ∙ ap (leading_number 0) e ∙ number_place index width room in
    apart width low high (append_cancel_left (index_text n) rest (width_text width) (sym joined ∙ e ∙ ap (λ (k : ℕ). piece_text k width) (sym same)))

-- ---- no resource

true_not : {b : Bool} → b ≡ true → true ≡ not b → ⊥
true_not {b} is e = absurd cc

pub not_same : (xs ys zs : List ℕ) → true ≡ not (bytes_eq xs ys) → ys ≡ zs → xs ≢ zs
not_same xs ys zs e is same = let equal : bytes_eq xs ys ≡ true = (bytes_eq-Decides xs ys).1 (same ∙ sym is) in absurd (true_not equal e)

pub unlike : (xs ys : List ℕ) (b : Bool) → b ≡ bytes_eq xs ys → b ≡ false → xs ≢ ys
unlike xs ys b is differ same = let equal : bytes_eq xs ys ≡ true = (bytes_eq-Decides xs ys).1 same in absurd cc

no_resource_at : (text rest : List ℕ) → text ≢ codes "checkpoint" → ((more : List ℕ) → text ≢ codes "tile/entries/" ++ more) → text ≡ codes "tile/" ++ rest → HasNoTile rest
    → (resource : Resource) → IsResource resource → path_text resource ≢ text
no_resource_at text rest not_head not_entries joined apart (resource.Tile t) ok e = apart t ok (append_cancel_left (codes "tile/") rest (tile_piece_text t) (sym joined ∙ sym e))
no_resource_at text rest not_head not_entries joined apart (resource.Entries index width) ok e = not_entries (piece_text index width) (sym e)
no_resource_at text rest not_head not_entries joined apart resource.Checkpoint ok e = not_head (sym e)

pub no_resource : (text rest : List ℕ) (r : Option Resource) → text ≢ codes "checkpoint" → ((more : List ℕ) → text ≢ codes "tile/entries/" ++ more) → text ≡ codes "tile/" ++ rest
    → MatchOption r (HasNoTile rest) (λ resource. IsTilePath rest resource) → IfNone r ((resource : Resource) → IsResource resource → path_text resource ≢ text)
no_resource text rest None not_head not_entries joined apart = no_resource_at text rest not_head not_entries joined apart
no_resource text rest (Some found) not_head not_entries joined apart = tt
