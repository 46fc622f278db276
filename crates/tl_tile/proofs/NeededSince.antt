-- What a log serves and did not serve when it was shorter.
use Rattle.std.proofs.Common.{◌≡◌, ℕ, zero, suc, ◌+◌, ◌-◌, ◌/◌, ◌%◌, ◌^◌, ◌<◌, ◌≤◌, inl, inr, ◌⊎◌, Bool, true, false, cond, ◌==◌, ◌||◌, List, [], ◌∷◌, ◌++◌, map, refl, sym, ap, subst, ◌∙◌, arith}
use Rattle.std.specs.Prelude.{Contains}
use Rattle.std.specs.List.{flat_map, range_with_len}
use Rattle.std.proofs.lemmas.Bool.{cases_lt, ne_eqb, eqb-false, or_parts, or_from}
use Rattle.std.proofs.lemmas.List.Elements.{Contains-append_left, Contains-append_right, Contains-append_cases}
use Rattle.tl_tile.specs.declared.resource.Tile.{Tile}
use Rattle.tl_tile.specs.declared.resource.Resource.{Resource}
use Rattle.tl_tile.specs.declared.resource.Resource.TheVariants as resource
use Rattle.tl_tile.specs.TileText.{level_count}
use Rattle.tl_tile.specs.Needed.{tile_at, pieces, pieces_since, needed_resources, needed_resources_since}
use Rattle.tl_tile.specs.Inner.Law.{NeededSinceIsNew}
use Rattle.tl_tile.proofs.Members.{map_has, has_map, range_has, has_range, flat_map_has, has_flat_map}
use Rattle.tl_tile.proofs.TileTexts.{scaled_le}
use Rattle.tl_tile.proofs.Levels.{level_parts}

-- a full piece of a row of this many, or its partial one
abbrev IsPiece : ℕ → ℕ → ℕ → Type 0
IsPiece count i w = ((i < count / 256) × (w ≡ 256)) ⊎ ((i ≡ count / 256) × (w ≡ count % 256) × (0 < count % 256))

-- one that the row did not have when it was so much shorter
abbrev IsNewPiece : ℕ → ℕ → ℕ → ℕ → Type 0
IsNewPiece from count i w =
    ((from / 256 ≤ i) × (i < count / 256) × (w ≡ 256))
    ⊎ ((i ≡ count / 256) × (w ≡ count % 256) × (0 < count % 256) × (from < count))

new_is_piece : (from count i w : ℕ) → IsNewPiece from count i w → IsPiece count i w
new_is_piece from count i w (inl (low, high, wide)) = inl (high, wide)
new_is_piece from count i w (inr (last, wide, some, more)) = inr (last, wide, some)

new_or_old : (from count i w : ℕ) → from ≤ count → IsPiece count i w → IsNewPiece from count i w ⊎ IsPiece from i w
new_or_old from count i w order (inl (high, wide)) =
    elim (cases_lt i (from / 256)) as (λ _. IsNewPiece from count i w ⊎ IsPiece from i w) [
      | inl old ↦ inr (inl (old, wide))
      | inr new ↦ inl (inl (new, high, wide))
    ]
new_or_old from count i w order (inr (last, wide, some)) =
    elim (cases_lt from count) as (λ _. IsNewPiece from count i w ⊎ IsPiece from i w) [
      | inl more ↦ inl (inr (last, wide, some, more))
      | inr same ↦
          let e : count ≡ from = omega (arith, same, order) in
          inr (inr (last ∙ ap (λ (x : ℕ). x / 256) e, wide ∙ ap (λ (x : ℕ). x % 256) e, omega (arith, some, ap (λ (x : ℕ). x % 256) e)))
    ]

not_both : (from count i w : ℕ) → from ≤ count → IsNewPiece from count i w → IsPiece from i w → ⊥
not_both from count i w order (inl (low, high, wide)) (inl (old, whole)) = omega (arith, low, old)
not_both from count i w order (inl (low, high, wide)) (inr (last, part, some)) = omega (arith, wide, part)
not_both from count i w order (inr (last, wide, some, more)) (inl (old, whole)) = omega (arith, wide, whole)
not_both from count i w order (inr (last, wide, some, more)) (inr (at, part, left)) = omega (arith, last, at, wide, part, more)

-- one element or none, and when
has_one : {X : Type 0} (test : Bool) (x y : X) → Contains (cond test [] (x ∷ [])) y → (test ≡ false) × (x ≡ y)
has_one true x y (k, less, at) = absurd (omega (arith, less))
has_one false x y (zero, less, at) = (refl, at)
has_one false x y (suc k, less, at) = absurd (omega (arith, less))

one_has : {X : Type 0} (test : Bool) (x : X) → test ≡ false → Contains (cond test [] (x ∷ [])) x
one_has true x e = absurd (cc)
one_has false x e = (0, omega arith, refl)

some_ne : (n : ℕ) → 0 < n → n ≡ 0 → ⊥
some_ne n some e = omega (arith, some, e)

ne_some : (n : ℕ) → (n ≡ 0 → ⊥) → 0 < n
ne_some n ne = elim (cases_lt 0 n) as (λ _. 0 < n) [ inl some ↦ some | inr none ↦ absurd (ne (omega (arith, none))) ]

-- ---- a row

has_piece : (piece : ℕ → ℕ → Resource) (count : ℕ) (r : Resource) → Contains (pieces piece count) r → (i : ℕ) × (w : ℕ) × (piece i w ≡ r) × IsPiece count i w
has_piece piece count r has =
    elim (Contains-append_cases (map (λ i. piece i 256) (range_with_len 0 (count / 256))) (cond (count % 256 == 0) [] (piece (count / 256) (count % 256) ∷ [])) r has)
    as (λ _. (i : ℕ) × (w : ℕ) × (piece i w ≡ r) × IsPiece count i w) [
      | inl own ↦
          let found = has_map (λ i. piece i 256) (range_with_len 0 (count / 256)) r own in
          let within = has_range 0 (count / 256) found.0 found.1 in
          (found.0, 256, found.2, inl (omega (arith, within.1), refl))
      | inr own ↦
          let same = has_one (count % 256 == 0) (piece (count / 256) (count % 256)) r own in
          (count / 256, count % 256, same.1, inr (refl, refl, ne_some (count % 256) (eqb-false (count % 256) 0 same.0)))
    ]

piece_there : (piece : ℕ → ℕ → Resource) (count i w : ℕ) → IsPiece count i w → Contains (pieces piece count) (piece i w)
piece_there piece count i w (inl (high, wide)) =
    subst (λ (x : ℕ). Contains (pieces piece count) (piece i x)) (sym wide)
    (Contains-append_left (map (λ i. piece i 256) (range_with_len 0 (count / 256))) (cond (count % 256 == 0) [] (piece (count / 256) (count % 256) ∷ [])) (piece i 256)
    (map_has (λ i. piece i 256) (range_with_len 0 (count / 256)) i (range_has 0 (count / 256) i (omega arith) (omega (arith, high)))))
piece_there piece count i w (inr (last, wide, some)) =
    subst (Contains (pieces piece count)) (λ k. piece (sym last k) (sym wide k))
    (Contains-append_right (map (λ i. piece i 256) (range_with_len 0 (count / 256))) (cond (count % 256 == 0) [] (piece (count / 256) (count % 256) ∷ [])) (piece (count / 256) (count % 256))
    (one_has (count % 256 == 0) (piece (count / 256) (count % 256)) (ne_eqb (count % 256) 0 (some_ne (count % 256) some))))

has_new : (piece : ℕ → ℕ → Resource) (from count : ℕ) (r : Resource) → from ≤ count → Contains (pieces_since piece from count) r
    → (i : ℕ) × (w : ℕ) × (piece i w ≡ r) × IsNewPiece from count i w
has_new piece from count r order has =
    let test : Bool = count % 256 == 0 || count == from in
    elim (Contains-append_cases (map (λ i. piece i 256) (range_with_len (from / 256) (count / 256 - from / 256))) (cond test [] (piece (count / 256) (count % 256) ∷ [])) r has)
    as (λ _. (i : ℕ) × (w : ℕ) × (piece i w ≡ r) × IsNewPiece from count i w) [
      | inl own ↦
          let found = has_map (λ i. piece i 256) (range_with_len (from / 256) (count / 256 - from / 256)) r own in
          let within = has_range (from / 256) (count / 256 - from / 256) found.0 found.1 in
          (found.0, 256, found.2, inl (within.0, omega (arith, within.0, within.1), refl))
      | inr own ↦
          let same = has_one test (piece (count / 256) (count % 256)) r own in
          let parts = or_parts (count % 256 == 0) (count == from) same.0 in
          let more : from < count = elim (cases_lt from count) as (λ _. from < count) [ inl more ↦ more | inr past ↦ absurd (eqb-false count from parts.1 (omega (arith, past, order))) ] in
          (count / 256, count % 256, same.1, inr (refl, refl, ne_some (count % 256) (eqb-false (count % 256) 0 parts.0), more))
    ]

new_there : (piece : ℕ → ℕ → Resource) (from count i w : ℕ) → IsNewPiece from count i w → Contains (pieces_since piece from count) (piece i w)
new_there piece from count i w (inl (low, high, wide)) =
    let test : Bool = count % 256 == 0 || count == from in
    subst (λ (x : ℕ). Contains (pieces_since piece from count) (piece i x)) (sym wide)
    (Contains-append_left (map (λ i. piece i 256) (range_with_len (from / 256) (count / 256 - from / 256))) (cond test [] (piece (count / 256) (count % 256) ∷ [])) (piece i 256)
    (map_has (λ i. piece i 256) (range_with_len (from / 256) (count / 256 - from / 256)) i (range_has (from / 256) (count / 256 - from / 256) i low (omega (arith, low, high)))))
new_there piece from count i w (inr (last, wide, some, more)) =
    let test : Bool = count % 256 == 0 || count == from in
    let apart : count ≡ from → ⊥ = λ e. omega (arith, e, more) in
    subst (Contains (pieces_since piece from count)) (λ k. piece (sym last k) (sym wide k))
    (Contains-append_right (map (λ i. piece i 256) (range_with_len (from / 256) (count / 256 - from / 256))) (cond test [] (piece (count / 256) (count % 256) ∷ [])) (piece (count / 256) (count % 256))
    (one_has test (piece (count / 256) (count % 256)) (or_from (count % 256 == 0) (count == from) (ne_eqb (count % 256) 0 (some_ne (count % 256) some)) (ne_eqb count from apart))))

-- ---- all rows

-- a piece of a level's tiles or of the bundles
abbrev IsPlaced : (ℕ → ℕ → ℕ → Type 0) → (ℕ → ℕ → Type 0) → Resource → Type 0
IsPlaced IsOfLevel IsOfBundles r =
    ((level : ℕ) × (i : ℕ) × (w : ℕ) × (level < 8) × (tile_at level i w ≡ r) × IsOfLevel level i w) ⊎ ((i : ℕ) × (w : ℕ) × (resource.Entries i w ≡ r) × IsOfBundles i w)

abbrev IsOld : ℕ → Resource → Type 0
IsOld size = IsPlaced (λ level. IsPiece (level_count size level)) (IsPiece size)

abbrev IsNew : ℕ → ℕ → Resource → Type 0
IsNew from size = IsPlaced (λ level. IsNewPiece (level_count from level) (level_count size level)) (IsNewPiece from size)

-- a longer log has no fewer hashes of a level
counts_grow : (from size level : ℕ) → from ≤ size → level_count from level ≤ level_count size level
counts_grow from size level order =
    let low = level_parts from level in
    let high = level_parts size level in
    elim (cases_lt (level_count size level) (level_count from level)) as (λ _. level_count from level ≤ level_count size level) [
      | inr le ↦ le
      | inl more ↦
          let m = scaled_le (level_count size level + 1) (level_count from level) (256 ^ level) (omega (arith, more)) in
          absurd (omega (arith, m, low, high, order))
    ]

needs : (size : ℕ) (r : Resource) → Contains (needed_resources size) r → IsOld size r
needs size r has =
    let f : ℕ → List Resource = λ level. pieces (tile_at level) (level_count size level) in
    elim (Contains-append_cases (flat_map f (range_with_len 0 8)) (pieces resource.Entries size) r has) as (λ _. IsOld size r) [
      | inl tiles ↦
          let found = has_flat_map f (range_with_len 0 8) r tiles in
          let within = has_range 0 8 found.0 found.1 in
          let one = has_piece (tile_at found.0) (level_count size found.0) r found.2 in
          inl (found.0, one.0, one.1, omega (arith, within.1), one.2, one.3)
      | inr bundles ↦ inr (has_piece resource.Entries size r bundles)
    ]

is_needed : (size : ℕ) (r : Resource) → IsOld size r → Contains (needed_resources size) r
is_needed size r (inl (level, i, w, low, same, is)) =
    let f : ℕ → List Resource = λ level. pieces (tile_at level) (level_count size level) in
    subst (Contains (needed_resources size)) same
    (Contains-append_left (flat_map f (range_with_len 0 8)) (pieces resource.Entries size) (tile_at level i w)
    (flat_map_has f (range_with_len 0 8) level (tile_at level i w) (range_has 0 8 level (omega arith) (omega (arith, low))) (piece_there (tile_at level) (level_count size level) i w is)))
is_needed size r (inr (i, w, same, is)) =
    let f : ℕ → List Resource = λ level. pieces (tile_at level) (level_count size level) in
    subst (Contains (needed_resources size)) same
    (Contains-append_right (flat_map f (range_with_len 0 8)) (pieces resource.Entries size) (resource.Entries i w) (piece_there resource.Entries size i w is))

needs_new : (from size : ℕ) (r : Resource) → from ≤ size → Contains (needed_resources_since from size) r → IsNew from size r
needs_new from size r order has =
    let f : ℕ → List Resource = λ level. pieces_since (tile_at level) (level_count from level) (level_count size level) in
    elim (Contains-append_cases (flat_map f (range_with_len 0 8)) (pieces_since resource.Entries from size) r has) as (λ _. IsNew from size r) [
      | inl tiles ↦
          let found = has_flat_map f (range_with_len 0 8) r tiles in
          let within = has_range 0 8 found.0 found.1 in
          let one = has_new (tile_at found.0) (level_count from found.0) (level_count size found.0) r (counts_grow from size found.0 order) found.2 in
          inl (found.0, one.0, one.1, omega (arith, within.1), one.2, one.3)
      | inr bundles ↦ inr (has_new resource.Entries from size r order bundles)
    ]

is_needed_new : (from size : ℕ) (r : Resource) → IsNew from size r → Contains (needed_resources_since from size) r
is_needed_new from size r (inl (level, i, w, low, same, is)) =
    let f : ℕ → List Resource = λ level. pieces_since (tile_at level) (level_count from level) (level_count size level) in
    subst (Contains (needed_resources_since from size)) same
    (Contains-append_left (flat_map f (range_with_len 0 8)) (pieces_since resource.Entries from size) (tile_at level i w)
    (flat_map_has f (range_with_len 0 8) level (tile_at level i w) (range_has 0 8 level (omega arith) (omega (arith, low))) (new_there (tile_at level) (level_count from level) (level_count size level) i w is)))
is_needed_new from size r (inr (i, w, same, is)) =
    let f : ℕ → List Resource = λ level. pieces_since (tile_at level) (level_count from level) (level_count size level) in
    subst (Contains (needed_resources_since from size)) same
    (Contains-append_right (flat_map f (range_with_len 0 8)) (pieces_since resource.Entries from size) (resource.Entries i w) (new_there resource.Entries from size i w is))

split_old : (from size : ℕ) (r : Resource) → from ≤ size → IsOld size r → IsNew from size r ⊎ IsOld from r
split_old from size r order (inl (level, i, w, low, same, is)) =
    elim (new_or_old (level_count from level) (level_count size level) i w (counts_grow from size level order) is) as (λ _. IsNew from size r ⊎ IsOld from r) [
      | inl new ↦ inl (inl (level, i, w, low, same, new))
      | inr old ↦ inr (inl (level, i, w, low, same, old))
    ]
split_old from size r order (inr (i, w, same, is)) =
    elim (new_or_old from size i w order is) as (λ _. IsNew from size r ⊎ IsOld from r) [
      | inl new ↦ inl (inr (i, w, same, new))
      | inr old ↦ inr (inr (i, w, same, old))
    ]

new_is_old : (from size : ℕ) (r : Resource) → IsNew from size r → IsOld size r
new_is_old from size r (inl (level, i, w, low, same, is)) = inl (level, i, w, low, same, new_is_piece (level_count from level) (level_count size level) i w is)
new_is_old from size r (inr (i, w, same, is)) = inr (i, w, same, new_is_piece from size i w is)

same_tile : (s t : Tile) → resource.Tile s ≡ resource.Tile t → s ≡ t
same_tile s t e = cc

same_bundle : (i w j v : ℕ) → resource.Entries i w ≡ resource.Entries j v → (i ≡ j) × (w ≡ v)
same_bundle i w j v e = (cc, cc)

no_tile : (i w : ℕ) (t : Tile) → resource.Entries i w ≡ resource.Tile t → ⊥
no_tile i w t e = cc

apart : (from size : ℕ) (r : Resource) → from ≤ size → IsNew from size r → IsOld from r → ⊥
apart from size r order (inl (level, i, w, low, same, is)) (inl (at, j, v, less, equal, was)) =
    let one : record { level = at; index = j; width = v } ≡ record { level = level; index = i; width = w } =
    same_tile (record { level = at; index = j; width = v }) (record { level = level; index = i; width = w }) (equal ∙ sym same) in
    not_both (level_count from level) (level_count size level) i w (counts_grow from size level order) is
    (subst (λ (t : Tile). IsPiece (level_count from t.level) t.index t.width) one was)
apart from size r order (inl (level, i, w, low, same, is)) (inr (j, v, equal, was)) = no_tile j v (record { level = level; index = i; width = w }) (equal ∙ sym same)
apart from size r order (inr (i, w, same, is)) (inl (at, j, v, less, equal, was)) = no_tile i w (record { level = at; index = j; width = v }) (same ∙ sym equal)
apart from size r order (inr (i, w, same, is)) (inr (j, v, equal, was)) =
    let one = same_bundle j v i w (equal ∙ sym same) in
    not_both from size i w order is (subst (λ (x : ℕ). IsPiece from x w) one.0 (subst (λ (x : ℕ). IsPiece from j x) one.1 was))

pub since_is_new : NeededSinceIsNew
since_is_new from size order r = record {
  enough = λ has.
      elim (split_old from size r order (needs size r has)) as (λ _. Contains (needed_resources_since from size) r ⊎ Contains (needed_resources from) r) [
        | inl new ↦ inl (is_needed_new from size r new)
        | inr old ↦ inr (is_needed from r old)
      ];
  needed = λ has. is_needed size r (new_is_old from size r (needs_new from size r order has));
  new = λ has had. apart from size r order (needs_new from size r order has) (needs from r had);
}

-- ---- of nothing, all

last_of_none : (count : ℕ) (xs ys : List Resource) (test : Bool) → test ≡ (count % 256 == 0) → cond (test || count == 0) xs ys ≡ cond (count % 256 == 0) xs ys
last_of_none count xs ys true e = ap (λ (b : Bool). cond b xs ys) e
last_of_none count xs ys false e =
    let some : count ≡ 0 → ⊥ = λ none. eqb-false (count % 256) 0 (sym e) (ap (λ (x : ℕ). x % 256) none) in
    ap (λ (b : Bool). cond b xs ys) (ne_eqb count 0 some ∙ e)

row_of_none : (piece : ℕ → ℕ → Resource) (count : ℕ) → pieces_since piece 0 count ≡ pieces piece count
row_of_none piece count =
    let first : 0 / 256 ≡ 0 = omega arith in
    let many : count / 256 - 0 / 256 ≡ count / 256 = omega arith in
    let last = last_of_none count [] (piece (count / 256) (count % 256) ∷ []) (count % 256 == 0) refl in
    λ k. map (λ i. piece i 256) (range_with_len (first k) (many k)) ++ last k

none_of_level : (level : ℕ) → level_count 0 level ≡ 0
none_of_level level =
    let parts = level_parts 0 level in
    elim (cases_lt 0 (level_count 0 level)) as (λ _. level_count 0 level ≡ 0) [
      | inr none ↦ omega (arith, none)
      | inl some ↦ absurd (let m = scaled_le 1 (level_count 0 level) (256 ^ level) some in omega (arith, m, parts))
    ]

rows_of_none : (size : ℕ) (levels : List ℕ) → flat_map (λ level. pieces_since (tile_at level) (level_count 0 level) (level_count size level)) levels
    ≡ flat_map (λ level. pieces (tile_at level) (level_count size level)) levels
rows_of_none size [] = refl
rows_of_none size (level ∷ levels) =
    let row = ap (λ (x : ℕ). pieces_since (tile_at level) x (level_count size level)) (none_of_level level) ∙ row_of_none (tile_at level) (level_count size level) in
    λ k. row k ++ rows_of_none size levels k

pub since_nothing : (size : ℕ) → needed_resources_since 0 size ≡ needed_resources size
since_nothing size = λ k. rows_of_none size (range_with_len 0 8) k ++ row_of_none resource.Entries size k
