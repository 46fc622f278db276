-- What one full place of a level more makes of the right edge.
use Rattle.std.proofs.Common.{◌≡◌, ℕ, zero, suc, ◌+◌, ◌-◌, ◌*◌, ◌/◌, ◌%◌, ◌^◌, ◌<◌, ◌≤◌, inl, inr, Bool, true, false, cond, List, [], ◌∷◌, ◌++◌, length, map, take, drop, filter, ◌==◌, append_assoc, refl, sym, ap, subst, ◌∙◌, arith}
use Rattle.std.specs.List.{flat_map, range_with_len}
use Rattle.std.proofs.lemmas.Nat.{div-mul-add, mod-mul-add, div-add-mod'}
use Rattle.std.proofs.lemmas.Bool.{cases_lt, eq-eqb, ne_eqb}
use Rattle.std.proofs.lemmas.List.{length-append, take_at, take-append-le, drop-append-le, append-nil, length-drop}
use Rattle.std.proofs.lemmas.List.FromFn.{map-range_with_len_more, length-map-range_with_len}
use Rattle.tl_hash.specs.Bytes.{Digest}
use Rattle.tl_hash.specs.Tree.{tree_hash}
use Rattle.tl_tile.specs.TileText.{level_count, full_tile, tile_text}
use Rattle.tl_tile.specs.RightEdge.{filled_levels, hashes_below, count_below}
use Rattle.tl_tile.specs.Inner.PartialHashes.{hash_at, partial_hashes}
use Rattle.tl_tile.proofs.NeededLemmas.{next_count}
use Rattle.tl_tile.proofs.TileTexts.{scaled_le}
use Rattle.tl_tile.proofs.Levels.{power_of_256, positive_256, next_power, base, wide_of, level_parts, rest_small, base_parts, above_rest, Folds}
use Rattle.tl_tile.proofs.Runs.{run_of}
use Rattle.tl_tile.proofs.Below.{length-below, places_text}

-- ---- places of one level, before and after

-- the entries under a full place stay
pub hash_stays : (H : Digest) (entries added : List (List ℕ)) (level place : ℕ) → (place + 1) * 256 ^ level ≤ length entries
    → hash_at H (entries ++ added) level place ≡ hash_at H entries level place
hash_stays H entries added level place within =
    let u : ℕ = 256 ^ level in
    let sum : (place + 1) * u ≡ place * u + u = omega arith in
    let rest : drop (place * u) (entries ++ added) ≡ drop (place * u) entries ++ added = drop-append-le (place * u) entries added (omega (arith, within, sum)) in
    let front : take u (drop (place * u) entries ++ added) ≡ take u (drop (place * u) entries) =
    take-append-le u (drop (place * u) entries) added (omega (arith, within, sum, length-drop (place * u) entries)) in
    ap (λ (xs : List (List ℕ)). tree_hash H (take u xs)) rest ∙ ap (tree_hash H) front

pub map_same : {X : Type 0} (f g : ℕ → X) (a n : ℕ) → ((i : ℕ) → a ≤ i → i < a + n → f i ≡ g i) → map f (range_with_len a n) ≡ map g (range_with_len a n)
map_same f g a zero same = refl
map_same f g a (suc n) same =
    let first = same a (omega arith) (omega arith) in
    let rest = map_same f g (a + 1) n (λ i low high. same i (omega (arith, low)) (omega (arith, high))) in
    λ i. first i ∷ rest i

places_stay : (H : Digest) (entries added : List (List ℕ)) (level first n : ℕ) → first + n ≤ level_count (length entries) level
    → map (hash_at H (entries ++ added) level) (range_with_len first n) ≡ map (hash_at H entries level) (range_with_len first n)
places_stay H entries added level first n within =
    map_same (hash_at H (entries ++ added) level) (hash_at H entries level) first n
    (λ place low high.
    let u : ℕ = 256 ^ level in
    let fits : (place + 1) * u ≤ level_count (length entries) level * u = scaled_le (place + 1) (level_count (length entries) level) u (omega (arith, high, within)) in
    hash_stays H entries added level place (omega (arith, fits, level_parts (length entries) level)))

-- ---- the size, and how often 256 divides it

-- rests grow with the level
rest_grows : (size level more : ℕ) → size % 256 ^ level ≤ size % 256 ^ (level + more)
rest_grows size level zero = (let same : level ≡ level + 0 = omega arith in subst (λ (x : ℕ). size % 256 ^ level ≤ size % 256 ^ x) same (omega arith))
rest_grows size level (suc more) =
    let next : level + more + 1 ≡ level + suc more = omega arith in
    let step : size % 256 ^ (level + more) ≤ size % 256 ^ (level + more + 1) = omega (arith, above_rest size (level + more)) in
    subst (λ (x : ℕ). size % 256 ^ level ≤ size % 256 ^ x) next (omega (arith, rest_grows size level more, step))

rest_up : (size level higher : ℕ) → level ≤ higher → size % 256 ^ level ≤ size % 256 ^ higher
rest_up size level higher up =
    let sum : level + (higher - level) ≡ higher = omega (arith, up) in
    subst (λ (x : ℕ). size % 256 ^ level ≤ size % 256 ^ x) sum (rest_grows size level (higher - level))

-- the size is this many full places of a level, and not of the next
pub record IsFilled (size level count : ℕ) : Type 0 where
  pub scaled : count * 256 ^ level ≡ size
  pub some : 0 < count

pub count_is : (size level count : ℕ) → IsFilled size level count → level_count size level ≡ count
count_is size level count filled =
    let sum : size ≡ count * 256 ^ level + 0 = omega (arith, filled.scaled) in
    ap (λ (x : ℕ). x / 256 ^ level) sum ∙ div-mul-add count (256 ^ level) 0 (positive_256 level)

no_rest : (size level count : ℕ) → IsFilled size level count → size % 256 ^ level ≡ 0
no_rest size level count filled =
    let sum : size ≡ count * 256 ^ level + 0 = omega (arith, filled.scaled) in
    ap (λ (x : ℕ). x % 256 ^ level) sum ∙ mod-mul-add count (256 ^ level) 0 (positive_256 level)

-- one entry fewer has one place fewer
pub before_count : (size level count : ℕ) → IsFilled size level count → level_count (size - 1) level ≡ count - 1
before_count size level count filled =
    let u : ℕ = 256 ^ level in
    let positive = positive_256 level in
    let one : count ≡ count - 1 + 1 = omega (arith, filled.some) in
    let product : count * u ≡ (count - 1) * u + u = ap (λ (x : ℕ). x * u) one ∙ omega arith in
    let sum : size - 1 ≡ (count - 1) * u + (u - 1) = omega (arith, filled.scaled, product, positive) in
    ap (λ (x : ℕ). x / u) sum ∙ div-mul-add (count - 1) u (u - 1) (omega (arith, positive))

-- if a level is not full, one entry fewer has as many places
pub same_count : (size level : ℕ) → 0 < size % 256 ^ level → level_count (size - 1) level ≡ level_count size level
same_count size level some =
    let u : ℕ = 256 ^ level in
    let sum : size - 1 ≡ level_count size level * u + (size % u - 1) = omega (arith, level_parts size level, some) in
    ap (λ (x : ℕ). x / u) sum ∙ div-mul-add (level_count size level) u (size % u - 1) (omega (arith, rest_small size level, some))

-- the next level is full too
pub next_filled : (size level count : ℕ) → IsFilled size level count → count % 256 ≡ 0 → IsFilled size (level + 1) (count / 256)
next_filled size level count filled whole =
    let parts : count / 256 * 256 + count % 256 ≡ count = div-add-mod' count 256 in
    let u : ℕ = 256 ^ level in
    let product : count / 256 * 256 * u ≡ count * u = (let e : count / 256 * 256 ≡ count = omega (arith, parts, whole) in ap (λ (x : ℕ). x * u) e) in
    record {
      scaled = ap (λ (x : ℕ). count / 256 * x) (next_power level) ∙ omega (arith, product, filled.scaled);
      some = omega (arith, parts, whole, filled.some);
    }

-- so the size is a multiple of a tile's width
pub filled_whole : (size level count : ℕ) → IsFilled size level count → count % 256 ≡ 0 → size % 256 ≡ 0
filled_whole size level count filled whole =
    let next = next_filled size level count filled whole in
    let product : count / 256 * 256 ^ (level + 1) ≡ count / 256 * 256 ^ level * 256 = ap (λ (x : ℕ). count / 256 * x) (next_power level) ∙ omega arith in
    omega (arith, next.scaled, product)

-- the last of the places before
pub before_wide : (size level count : ℕ) → IsFilled size level count → count % 256 ≡ 0 → wide_of (size - 1) level ≡ 255
before_wide size level count filled whole =
    let sum : count - 1 ≡ (count / 256 - 1) * 256 + 255 = omega (arith, div-add-mod' count 256, whole, filled.some) in
    ap (λ (x : ℕ). x % 256) (before_count size level count filled ∙ sum) ∙ mod-mul-add (count / 256 - 1) 256 255 (omega arith)

pub low_level : (size level count : ℕ) → size < 2 ^ 32 → IsFilled size level count → level < 4
low_level size level count small filled =
    elim (cases_lt level 4) as (λ _. level < 4) [
      | inl low ↦ low
      | inr high ↦
          let rest : size % 256 ^ 4 ≤ size % 256 ^ level = rest_up size 4 level high in
          let none : size % 256 ^ level ≡ 0 = no_rest size level count filled in
          let own : size % 256 ^ 4 ≡ size = omega (arith, small) in
          let one : 1 * 256 ^ level ≤ count * 256 ^ level = scaled_le 1 count (256 ^ level) (omega (arith, filled.some)) in
          absurd (omega (arith, rest, none, own, one, filled.scaled, positive_256 level))
    ]

-- one place of a level more, after entries that are full places of that level, counts as one entry does there and
-- above
counts_up : (was lowest size more : ℕ) → was % 256 ^ lowest ≡ 0 → was + 256 ^ lowest ≡ size → level_count was (lowest + more) ≡ level_count (size - 1) (lowest + more)
counts_up was lowest size zero whole sum =
    let u : ℕ = 256 ^ lowest in
    let q : ℕ = level_count was lowest in
    let last : size - 1 ≡ q * u + (u - 1) = omega (arith, level_parts was lowest, whole, sum, positive_256 lowest) in
    let same : level_count was lowest ≡ level_count (size - 1) lowest = sym (ap (λ (x : ℕ). x / u) last ∙ div-mul-add q u (u - 1) (omega (arith, positive_256 lowest))) in
    let here : lowest ≡ lowest + 0 = omega arith in
    subst (λ (x : ℕ). level_count was x ≡ level_count (size - 1) x) here same
counts_up was lowest size (suc more) whole sum =
    let next : lowest + more + 1 ≡ lowest + suc more = omega arith in
    let step : level_count was (lowest + more + 1) ≡ level_count (size - 1) (lowest + more + 1) =
    sym (next_count was (lowest + more) _ refl)
    ∙ ap (λ (x : ℕ). x / 256) (counts_up was lowest size more whole sum)
    ∙ next_count (size - 1) (lowest + more) _ refl in
    subst (λ (x : ℕ). level_count was x ≡ level_count (size - 1) x) next step

pub counts_after : (was lowest size : ℕ) → was % 256 ^ lowest ≡ 0 → was + 256 ^ lowest ≡ size → (level : ℕ) → lowest ≤ level → level_count was level ≡ level_count (size - 1) level
counts_after was lowest size whole sum level up =
    let place : lowest + (level - lowest) ≡ level = omega (arith, up) in
    subst (λ (x : ℕ). level_count was x ≡ level_count (size - 1) x) place (counts_up was lowest size (level - lowest) whole sum)

-- ---- the partial tiles after the place

-- entries after which others were added, up to this size: one full place of this level, and of no other from there up
pub record AreFollowed (entries added : List (List ℕ)) (lowest size : ℕ) : Type 0 where
  pub sized : length (entries ++ added) ≡ size
  pub counts : (level : ℕ) → lowest ≤ level → level_count (length entries) level ≡ level_count (size - 1) level

-- above the levels that were filled nothing changes
partial_higher : (H : Digest) {lowest : ℕ} (entries added : List (List ℕ)) (size level : ℕ) → AreFollowed entries added lowest size → lowest ≤ level → 0 < size % 256 ^ level
    → partial_hashes H (entries ++ added) level ≡ partial_hashes H entries level
partial_higher H entries added size level grows up some =
    let after : List (List ℕ) = entries ++ added in
    let count : level_count (length after) level ≡ level_count (length entries) level =
    ap (λ (x : ℕ). level_count x level) grows.sized ∙ sym (same_count size level some) ∙ sym (grows.counts level up) in
    ap (λ (x : ℕ). map (hash_at H after level) (range_with_len (x / 256 * 256) (x % 256))) count
    ∙ places_stay H entries added level (base (length entries) level) (wide_of (length entries) level) (omega (arith, base_parts (length entries) level))

-- the level after those has one hash more
partial_at : (H : Digest) {lowest : ℕ} (entries added : List (List ℕ)) (size level count : ℕ) (hash : List ℕ) → AreFollowed entries added lowest size → lowest ≤ level → IsFilled size level count → (count % 256 ≡ 0 → ⊥)
    → hash ≡ hash_at H (entries ++ added) level (count - 1) → partial_hashes H (entries ++ added) level ≡ partial_hashes H entries level ++ hash ∷ []
partial_at H entries added size level count hash grows up filled partly hash_is =
    let after : List (List ℕ) = entries ++ added in
    let f : ℕ → List ℕ = hash_at H after level in
    let b : ℕ = base (length entries) level in
    let w : ℕ = wide_of (length entries) level in
    let count_after : level_count (length after) level ≡ count = ap (λ (x : ℕ). level_count x level) grows.sized ∙ count_is size level count filled in
    let count_before : level_count (length entries) level ≡ count - 1 = grows.counts level up ∙ before_count size level count filled in
    let first : count / 256 * 256 ≡ b = omega (arith, count_before, partly, filled.some) in
    let width : count % 256 ≡ w + 1 = omega (arith, count_before, partly, filled.some) in
    let last : b + w ≡ count - 1 = omega (arith, base_parts (length entries) level, count_before) in
    let stay = places_stay H entries added level b w (omega (arith, base_parts (length entries) level)) in
    ap (λ (x : ℕ). map f (range_with_len (x / 256 * 256) (x % 256))) count_after
    ∙ (λ i. map f (range_with_len (first i) (width i)))
    ∙ map-range_with_len_more f b w (count - 1) last
    ∙ (λ i. stay i ++ sym hash_is i ∷ [])

-- the filled levels have no partial tile
partial_lower : (H : Digest) (after : List (List ℕ)) (level higher : ℕ) → level < higher → length after % 256 ^ higher ≡ 0 → partial_hashes H after level ≡ []
partial_lower H after level higher less none =
    let size : ℕ = length after in
    let rest : size % 256 ^ (level + 1) ≤ size % 256 ^ higher = rest_up size (level + 1) higher (omega (arith, less)) in
    let width : wide_of size level ≡ 0 =
    elim (cases_lt 0 (wide_of size level)) as (λ _. wide_of size level ≡ 0) [
      | inl some ↦
          let one : 1 * 256 ^ level ≤ wide_of size level * 256 ^ level = scaled_le 1 (wide_of size level) (256 ^ level) some in
          absurd (omega (arith, rest, none, one, above_rest size level, positive_256 level))
      | inr empty ↦ omega (arith, empty)
    ] in
    ap (λ (x : ℕ). map (hash_at H after level) (range_with_len (base size level) x)) width

pub below_none : (H : Digest) (after : List (List ℕ)) (level higher : ℕ) → level ≤ higher → length after % 256 ^ higher ≡ 0 → hashes_below H after level ≡ []
unfolding hashes_below
below_none H after zero higher less none = refl
below_none H after (suc level) higher less none =
    let own = partial_lower H after level higher (omega (arith, less)) none in
    let rest = below_none H after level higher (omega (arith, less)) none in
    λ i. own i ++ rest i

-- what stands before the hashes that the new one takes the place of
grown : (H : Digest) {lowest : ℕ} (entries added : List (List ℕ)) (size level count : ℕ) (hash : List ℕ) → AreFollowed entries added lowest size → lowest ≤ level → IsFilled size level count → (count % 256 ≡ 0 → ⊥)
    → hash ≡ hash_at H (entries ++ added) level (count - 1) → (m : ℕ) → level < m
    → (front : List (List ℕ)) × (hashes_below H entries m ≡ front ++ hashes_below H entries level) × (hashes_below H (entries ++ added) m ≡ front ++ hash ∷ [])
unfolding hashes_below
grown H entries added size level count hash grows up filled partly hash_is zero less = absurd (omega (arith, less))
grown H entries added size level count hash grows up filled partly hash_is (suc m) less =
    let after : List (List ℕ) = entries ++ added in
    elim (cases_lt level m) as (λ _. (front : List (List ℕ)) × (hashes_below H entries (suc m) ≡ front ++ hashes_below H entries level) × (hashes_below H after (suc m) ≡ front ++ hash ∷ [])) [
      | inl below ↦
          let rest = grown H entries added size level count hash grows up filled partly hash_is m below in
          let u : ℕ = 256 ^ level in
          let one : 1 * u ≤ count % 256 * u = scaled_le 1 (count % 256) u (omega (arith, partly)) in
          let wide : wide_of size level * u ≡ count % 256 * u = ap (λ (x : ℕ). x % 256 * u) (count_is size level count filled) in
          let rests : size % 256 ^ (level + 1) ≤ size % 256 ^ m = rest_up size (level + 1) m (omega (arith, below)) in
          let some : 0 < size % 256 ^ m = omega (arith, rests, above_rest size level, wide, one, positive_256 level) in
          let same = partial_higher H entries added size m grows (omega (arith, up, below)) some in
          let own : List (List ℕ) = partial_hashes H entries m in (
            own ++ rest.0,
            ap (λ (xs : List (List ℕ)). own ++ xs) rest.1 ∙ sym (append_assoc own rest.0 (hashes_below H entries level)),
            (λ i. same i ++ rest.2 i) ∙ sym (append_assoc own rest.0 (hash ∷ [])),
          )
      | inr above ↦
          let same : m ≡ level = omega (arith, less, above) in
          let none : length after % 256 ^ level ≡ 0 = ap (λ (x : ℕ). x % 256 ^ level) grows.sized ∙ no_rest size level count filled in
          let at = partial_at H entries added size level count hash grows up filled partly hash_is in
          let empty = below_none H after level level (omega arith) none in (
            partial_hashes H entries level,
            ap (λ (x : ℕ). partial_hashes H entries x ++ hashes_below H entries x) same,
            ap (λ (x : ℕ). partial_hashes H after x ++ hashes_below H after x) same ∙ (λ i. at i ++ empty i)
                ∙ append-nil (partial_hashes H entries level ++ hash ∷ []),
          )
    ]

pub fill_kept : (H : Digest) {lowest : ℕ} (entries added : List (List ℕ)) (size level count left : ℕ) (hash : List ℕ) (kept : List (List ℕ)) → AreFollowed entries added lowest size → lowest ≤ level → IsFilled size level count → (count % 256 ≡ 0 → ⊥)
    → level < 8 → hash ≡ hash_at H (entries ++ added) level (count - 1) → kept ≡ hashes_below H entries 8 → left + count_below (length entries) level ≡ length kept
    → take left kept ++ hash ∷ [] ≡ hashes_below H (entries ++ added) 8
fill_kept H entries added size level count left hash kept grows up filled partly low hash_is kept_is place =
    let found = grown H entries added size level count hash grows up filled partly hash_is 8 low in
    let whole : kept ≡ found.0 ++ hashes_below H entries level = kept_is ∙ found.1 in
    let front : length found.0 ≡ left =
    omega (arith, place, ap length whole, length-append found.0 (hashes_below H entries level), length-below H entries level) in
    ap (λ (xs : List (List ℕ)). take left xs ++ hash ∷ []) whole
    ∙ ap (λ (xs : List (List ℕ)). xs ++ hash ∷ []) (take_at found.0 (hashes_below H entries level) left front)
    ∙ sym found.2

-- ---- the step of one filled level

-- the hashes before the new one, as they are after it
before_run : (H : Digest) {lowest : ℕ} (entries added : List (List ℕ)) (size level count : ℕ) (below : List (List ℕ)) → AreFollowed entries added lowest size → lowest ≤ level → IsFilled size level count → count % 256 ≡ 0
    → below ≡ partial_hashes H entries level → below ≡ map (hash_at H (entries ++ added) level) (range_with_len ((count / 256 - 1) * 256) 255)
before_run H entries added size level count below grows up filled whole below_is =
    let b : ℕ = base (length entries) level in
    let w : ℕ = wide_of (length entries) level in
    let count_before : level_count (length entries) level ≡ count - 1 = grows.counts level up ∙ before_count size level count filled in
    let width : w ≡ 255 = ap (λ (x : ℕ). x % 256) (grows.counts level up) ∙ before_wide size level count filled whole in
    let first : b ≡ (count / 256 - 1) * 256 = omega (arith, base_parts (length entries) level, count_before, width, div-add-mod' count 256, whole, filled.some) in
    below_is ∙ sym (places_stay H entries added level b w (omega (arith, base_parts (length entries) level)))
    ∙ (λ i. map (hash_at H (entries ++ added) level) (range_with_len (first i) (width i)))

pub fold_step : (H : Digest) {lowest : ℕ} (entries added : List (List ℕ)) (size level count : ℕ) (below : List (List ℕ)) (hash result : List ℕ) → AreFollowed entries added lowest size → lowest ≤ level → IsFilled size level count → count % 256 ≡ 0
    → below ≡ partial_hashes H entries level → hash ≡ hash_at H (entries ++ added) level (count - 1) → Folds H below hash result
    → result ≡ hash_at H (entries ++ added) (level + 1) (count / 256 - 1)
fold_step H entries added size level count below hash result grows up filled whole below_is hash_is folds =
    let after : List (List ℕ) = entries ++ added in
    let u : ℕ = 256 ^ level in
    let positive = positive_256 level in
    let p : ℕ = (count / 256 - 1) * 256 in
    let run = before_run H entries added size level count below grows up filled whole below_is in
    let wide : length below ≡ 255 = ap length run ∙ length-map-range_with_len (hash_at H after level) p 255 in
    let last : p + length below ≡ count - 1 = omega (arith, wide, div-add-mod' count 256, whole, filled.some) in
    let stop : p + length below + 1 ≡ count = omega (arith, wide, div-add-mod' count 256, whole, filled.some) in
    let start_u : (p + length below) * u ≡ (count - 1) * u = ap (λ (x : ℕ). x * u) last in
    let stop_u : (p + length below + 1) * u ≡ count * u = ap (λ (x : ℕ). x * u) stop in
    let parts : (p + length below + 1) * u ≡ (p + length below) * u + u = omega arith in
    let width : u ≡ size - (p + length below) * u = omega (arith, stop_u, parts, filled.scaled) in
    let folded = folds after (run_of u p size) (record {
      power = power_of_256 level;
      within = omega (arith, grows.sized);
      some = omega (arith, stop_u, parts, filled.scaled, positive);
      most = omega (arith, stop_u, filled.scaled);
      hashes_are = run ∙ ap (λ (x : ℕ). map (hash_at H after level) (range_with_len p x)) (sym wide);
      last_is = hash_is ∙ (λ i. tree_hash H (take (width i) (drop (sym start_u i) after)));
    }) in
    let power = next_power level in
    let from : p * u ≡ (count / 256 - 1) * 256 ^ (level + 1) = omega arith ∙ ap (λ (x : ℕ). (count / 256 - 1) * x) (sym power) in
    let spread : (p + length below + 1) * u ≡ p * u + 256 * u = (let e : p + length below + 1 ≡ p + 256 = omega (arith, wide) in ap (λ (x : ℕ). x * u) e ∙ omega arith) in
    let count_u : size - p * u ≡ 256 ^ (level + 1) = omega (arith, spread, stop_u, filled.scaled, power) in
    folded ∙ (λ i. tree_hash H (take (count_u i) (drop (from i) after)))

pub text_step : (H : Digest) {lowest : ℕ} (entries added : List (List ℕ)) (size level count : ℕ) (below : List (List ℕ)) (hash bytes : List ℕ) → AreFollowed entries added lowest size → lowest ≤ level → IsFilled size level count → count % 256 ≡ 0
    → below ≡ partial_hashes H entries level → hash ≡ hash_at H (entries ++ added) level (count - 1) → bytes ≡ flat_map (λ hash. hash) (below ++ hash ∷ [])
    → bytes ≡ tile_text H (full_tile level (count / 256 - 1)) (entries ++ added)
text_step H entries added size level count below hash bytes grows up filled whole below_is hash_is bytes_are =
    let after : List (List ℕ) = entries ++ added in
    let f : ℕ → List ℕ = hash_at H after level in
    let p : ℕ = (count / 256 - 1) * 256 in
    let run = before_run H entries added size level count below grows up filled whole below_is in
    let last : p + 255 ≡ count - 1 = omega (arith, div-add-mod' count 256, whole, filled.some) in
    bytes_are ∙ (λ i. flat_map (λ hash. hash) (run i ++ hash_is i ∷ []))
    ∙ ap (flat_map (λ hash. hash)) (sym (map-range_with_len_more f p 255 (count - 1) last))
    ∙ places_text H after level (count / 256 - 1) 256

-- ---- the levels that an entry fills

filter-front : (test : ℕ → Bool) (a k n : ℕ) → k ≤ n → ((i : ℕ) → a ≤ i → i < a + k → test i ≡ true) → ((i : ℕ) → a + k ≤ i → test i ≡ false) → filter test (range_with_len a n) ≡ range_with_len a k
filter-front test a zero zero most yes_at no_at = refl
filter-front test a (suc k) zero most yes_at no_at = absurd (omega (arith, most))
filter-front test a zero (suc n) most yes_at no_at =
    let rest = filter-front test (a + 1) zero n (omega arith) (λ i low high. absurd (omega (arith, low, high))) (λ i low. no_at i (omega (arith, low))) in
    ap (λ (b : Bool). cond b (a ∷ filter test (range_with_len (a + 1) n)) (filter test (range_with_len (a + 1) n))) (no_at a (omega arith)) ∙ rest
filter-front test a (suc k) (suc n) most yes_at no_at =
    let rest = filter-front test (a + 1) k n (omega (arith, most)) (λ i low high. yes_at i (omega (arith, low)) (omega (arith, high))) (λ i low. no_at i (omega (arith, low))) in
    ap (λ (b : Bool). cond b (a ∷ filter test (range_with_len (a + 1) n)) (filter test (range_with_len (a + 1) n))) (yes_at a (omega arith) (omega arith)) ∙ ap (λ (xs : List ℕ). a ∷ xs) rest

pub filled_levels_are : (size level count : ℕ) → IsFilled size level count → (count % 256 ≡ 0 → ⊥) → level < 8 → filled_levels size ≡ range_with_len 0 level
filled_levels_are size level count filled partly low =
    let u : ℕ = 256 ^ level in
    let one : 1 * u ≤ count % 256 * u = scaled_le 1 (count % 256) u (omega (arith, partly)) in
    let wide : wide_of size level * u ≡ count % 256 * u = ap (λ (x : ℕ). x % 256 * u) (count_is size level count filled) in
    filter-front (λ i. size % 256 ^ (i + 1) == 0) 0 level 8 (omega (arith, low))
    (λ i _ high. eq-eqb (size % 256 ^ (i + 1)) 0 (omega (arith, rest_up size (i + 1) level (omega (arith, high)), no_rest size level count filled)))
    (λ i from. ne_eqb (size % 256 ^ (i + 1)) 0
    (λ none. omega (arith, none, rest_up size (level + 1) (i + 1) (omega (arith, from)), above_rest size level, wide, one, positive_256 level)))
