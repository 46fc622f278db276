-- The hashes of the partial tiles of the lower levels, as parts of one list.
use Rattle.std.proofs.Common.{◌≡◌, ℕ, zero, suc, ◌+◌, ◌-◌, ◌*◌, ◌/◌, ◌%◌, ◌^◌, ◌<◌, ◌≤◌, inl, inr, List, [], ◌∷◌, ◌++◌, length, map, take, drop, Bool, cond, Option, Some, None, append_assoc, refl, sym, ap, subst, ◌∙◌, arith}
use Rattle.std.specs.Prelude.{MatchOption}
use Rattle.std.specs.List.{flat_map, range_with_len}
use Rattle.std.proofs.lemmas.Bool.{cases_lt, eq-eqb, ne_eqb}
use Rattle.std.proofs.lemmas.List.{length-append, take_at, drop_at, take_all}
use Rattle.tl_hash.specs.Bytes.{Digest}
use Rattle.tl_hash.specs.Tree.{tree_hash}
use Rattle.tl_hash.proofs.TreeLemmas.{tree_hash-none}
use Rattle.tl_tile.specs.declared.resource.Tile.{Tile}
use Rattle.tl_tile.specs.TileText.{level_count, partial_tile, tile_text}
use Rattle.tl_tile.specs.Inner.Run.{part}
use Rattle.tl_tile.specs.Inner.Rest.{IsRest}
use Rattle.tl_tile.specs.RightEdge.{shown_partial, hashes_below, count_below}
use Rattle.tl_tile.specs.Inner.PartialHashes.{hash_at, partial_hashes}
use Rattle.tl_tile.proofs.TileTexts.{tile_height}
use Rattle.tl_tile.proofs.Levels.{wide_of, length-partial}

pub count_below-none : (size : ℕ) → count_below size 0 ≡ 0
unfolding count_below
count_below-none size = refl

pub count_below-more : (size level : ℕ) → count_below size (level + 1) ≡ wide_of size level + count_below size level
unfolding count_below
count_below-more size level = let next : level + 1 ≡ suc level = omega arith in ap (count_below size) next

-- the hashes of a level and of those below it are no more than all
pub count_below-within : (size level m : ℕ) → level < m → wide_of size level + count_below size level ≤ count_below size m
unfolding count_below
count_below-within size level zero less = absurd (omega (arith, less))
count_below-within size level (suc m) less =
    elim (cases_lt level m) as (λ _. wide_of size level + count_below size level ≤ count_below size (suc m)) [
      | inl below ↦ (let rest = count_below-within size level m below in omega (arith, rest))
      | inr above ↦
          let same : level ≡ m = omega (arith, less, above) in
          subst (λ (x : ℕ). wide_of size x + count_below size x ≤ wide_of size m + count_below size m) (sym same) (omega arith)
    ]

pub length-below : (H : Digest) (entries : List (List ℕ)) (level : ℕ) → length (hashes_below H entries level) ≡ count_below (length entries) level
unfolding hashes_below count_below
length-below H entries zero = refl
length-below H entries (suc level) =
    omega (arith, length-append (partial_hashes H entries level) (hashes_below H entries level), length-partial H entries level, length-below H entries level)

-- the hashes of one level among those of all below a higher one
below_split : (H : Digest) (entries : List (List ℕ)) (level m : ℕ) → level < m
    → (above : List (List ℕ)) × (hashes_below H entries m ≡ above ++ (partial_hashes H entries level ++ hashes_below H entries level))
unfolding hashes_below
below_split H entries level zero less = absurd (omega (arith, less))
below_split H entries level (suc m) less =
    elim (cases_lt level m) as (λ _. (above : List (List ℕ)) × (hashes_below H entries (suc m) ≡ above ++ (partial_hashes H entries level ++ hashes_below H entries level))) [
      | inl below ↦
          let rest = below_split H entries level m below in
          let own : List (List ℕ) = partial_hashes H entries level ++ hashes_below H entries level in (
            partial_hashes H entries m ++ rest.0,
            ap (λ (xs : List (List ℕ)). partial_hashes H entries m ++ xs) rest.1 ∙ sym (append_assoc (partial_hashes H entries m) rest.0 own),
          )
      | inr above ↦
          let same : m ≡ level = omega (arith, less, above) in
          ([], ap (λ (x : ℕ). partial_hashes H entries x ++ hashes_below H entries x) same)
    ]

-- and where they stand
pub below_slice : (H : Digest) (entries : List (List ℕ)) (level start width : ℕ) (kept : List (List ℕ)) → level < 8 → kept ≡ hashes_below H entries 8 → width ≡ wide_of (length entries) level
    → start + width + count_below (length entries) level ≡ length kept → take width (drop start kept) ≡ partial_hashes H entries level
below_slice H entries level start width kept low kept_is width_is place =
    let found = below_split H entries level 8 low in
    let own : List (List ℕ) = partial_hashes H entries level in
    let rest : List (List ℕ) = hashes_below H entries level in
    let whole : kept ≡ found.0 ++ (own ++ rest) = kept_is ∙ found.1 in
    let own_length : length own ≡ width = length-partial H entries level ∙ sym width_is in
    let above_length : length found.0 ≡ start =
    omega (arith, place, ap length whole, length-append found.0 (own ++ rest), length-append own rest, own_length, length-below H entries level) in
    ap (λ (xs : List (List ℕ)). take width (drop start xs)) whole
    ∙ ap (take width) (drop_at found.0 (own ++ rest) start above_length)
    ∙ take_at own rest width own_length

-- the hashes of places, one after the other, counted from a first place
pub joined_places : (f : ℕ → List ℕ) (place a n : ℕ) → flat_map (λ hash. hash) (map f (range_with_len (place + a) n)) ≡ flat_map (λ i. f (place + i)) (range_with_len a n)
joined_places f place a zero = refl
joined_places f place a (suc n) =
    let next : place + a + 1 ≡ place + (a + 1) = omega arith in
    let rest : flat_map (λ hash. hash) (map f (range_with_len (place + a + 1) n)) ≡ flat_map (λ i. f (place + i)) (range_with_len (a + 1) n) =
    ap (λ (x : ℕ). flat_map (λ hash. hash) (map f (range_with_len x n))) next ∙ joined_places f place (a + 1) n in
    ap (λ (xs : List ℕ). f (place + a) ++ xs) rest

pub places_text : (H : Digest) (entries : List (List ℕ)) (level index width : ℕ)
    → flat_map (λ hash. hash) (map (hash_at H entries level) (range_with_len (index * 256) width)) ≡ tile_text H (record { level = level; index = index; width = width }) entries
places_text H entries level index width =
    let none : index * 256 ≡ index * 256 + 0 = omega arith in
    ap (λ (x : ℕ). flat_map (λ hash. hash) (map (hash_at H entries level) (range_with_len x width))) none
    ∙ joined_places (hash_at H entries level) (index * 256) 0 width

-- a partial tile's bytes
pub partial_text : (H : Digest) (entries : List (List ℕ)) (level : ℕ) → flat_map (λ hash. hash) (partial_hashes H entries level) ≡ tile_text H (partial_tile (length entries) level) entries
partial_text H entries level = places_text H entries level (level_count (length entries) level / 256) (level_count (length entries) level % 256)

-- ---- the whole edge

-- nothing is below the lowest level
pub rest-start : (H : Digest) (entries : List (List ℕ)) → IsRest H entries 0 None
rest-start H entries = omega arith

-- nothing but the rest is above the highest
pub rest-all : (H : Digest) (entries : List (List ℕ)) (found : Option (List ℕ)) → length entries < 2 ^ 32 → IsRest H entries 8 found
    → MatchOption found (length entries ≡ 0) (λ root. root ≡ tree_hash H entries)
rest-all H entries None small rest = omega (arith, small, rest)
rest-all H entries (Some root) small (some, is) =
    let start : level_count (length entries) 8 * 256 ^ 8 ≡ 0 = omega (arith, small) in
    is ∙ ap (λ (x : ℕ). tree_hash H (part x (length entries) entries)) start ∙ ap (tree_hash H) (take_all (length entries - 0) entries (omega arith))

pub root_of_none : (H : Digest) (entries : List (List ℕ)) (root : List ℕ) → length entries ≡ 0 → root ≡ H [] → root ≡ tree_hash H entries
root_of_none H [] root none is = is ∙ sym (tree_hash-none H)
root_of_none H (entry ∷ rest) root none is = absurd (omega (arith, none))

-- one level of the edge more
pub rest-more : (H : Digest) (size level start width : ℕ) (kept : List (List ℕ)) (below after : Option (List ℕ)) → level < 8 → width ≡ wide_of size level
    → start + width + count_below size level ≡ length kept
    → ((entries : List (List ℕ)) (l : ℕ) → take width (drop start kept) ≡ partial_hashes H entries l → IsRest H entries l below → IsRest H entries (l + 1) after)
    → (entries : List (List ℕ)) → length entries ≡ size → kept ≡ hashes_below H entries 8 → IsRest H entries level below → IsRest H entries (level + 1) after
rest-more H size level start width kept below after low width_is place step entries sized kept_is rest =
    let own_width : width ≡ wide_of (length entries) level = width_is ∙ ap (λ (x : ℕ). wide_of x level) (sym sized) in
    let here : start + width + count_below (length entries) level ≡ length kept = omega (arith, place, ap (λ (x : ℕ). count_below x level) sized) in
    step entries level (below_slice H entries level start width kept low kept_is own_width here) rest

-- ---- the partial tile of a level

-- the count of a level by a shift
pub shifted_count : (size level : ℕ) → size / 2 ^ (8 * level) ≡ level_count size level
shifted_count size level = ap (λ (x : ℕ). size / x) (tile_height level)

-- the name of a level's partial tile, by the count of its places
pub partial-named : (size level : ℕ) → record { level = level; index = size / 2 ^ (8 * level) / 256; width = size / 2 ^ (8 * level) % 256 } ≡ partial_tile size level
partial-named size level = (λ i. record { level = level; index = shifted_count size level i / 256; width = shifted_count size level i % 256 })

-- there is room for it below the end
pub partial_fits : (size level count length : ℕ) → level ≤ 7 → count ≡ count_below size level → length ≡ count_below size 8 → size / 2 ^ (8 * level) % 256 + count ≤ length
partial_fits size level count length low count_is length_is =
    let within = count_below-within size level 8 (omega (arith, low)) in
    let wide : size / 2 ^ (8 * level) % 256 ≡ wide_of size level = ap (λ (x : ℕ). x % 256) (shifted_count size level) in
    omega (arith, within, wide, count_is, length_is)

shown_made : (List ℕ → List ℕ) → List (List ℕ) → ℕ → Bool → Option (Tile × List ℕ)
shown_made H entries level none = cond none None (Some (partial_tile (length entries) level, tile_text H (partial_tile (length entries) level) entries))

pub partial-none : (H : Digest) (entries : List (List ℕ)) (size level : ℕ) → length entries ≡ size → size / 2 ^ (8 * level) % 256 ≡ 0 → None ≡ shown_partial H entries level
unfolding shown_made
partial-none H entries size level sized none =
    let wide : wide_of (length entries) level ≡ 0 = ap (λ (x : ℕ). wide_of x level) sized ∙ sym (ap (λ (x : ℕ). x % 256) (shifted_count size level)) ∙ none in
    sym (ap (shown_made H entries level) (eq-eqb (wide_of (length entries) level) 0 wide))

pub partial-some : (H : Digest) (entries : List (List ℕ)) (size level start width : ℕ) (kept : List (List ℕ)) (bytes : List ℕ) → level ≤ 7 → length entries ≡ size → kept ≡ hashes_below H entries 8
    → (size / 2 ^ (8 * level) % 256 ≡ 0 → ⊥) → width ≡ size / 2 ^ (8 * level) % 256 → start + width + count_below size level ≡ length kept → bytes ≡ flat_map (λ hash. hash) (take width (drop start kept))
    → Some (record { level = level; index = size / 2 ^ (8 * level) / 256; width = size / 2 ^ (8 * level) % 256 }, bytes) ≡ shown_partial H entries level
unfolding shown_made
partial-some H entries size level start width kept bytes low sized kept_is some width_is place bytes_are =
    let count : size / 2 ^ (8 * level) ≡ level_count (length entries) level = shifted_count size level ∙ ap (λ (x : ℕ). level_count x level) (sym sized) in
    let wide : width ≡ wide_of (length entries) level = width_is ∙ ap (λ (x : ℕ). x % 256) count in
    let here : start + width + count_below (length entries) level ≡ length kept = omega (arith, place, ap (λ (x : ℕ). count_below x level) sized) in
    let slice = below_slice H entries level start width kept (omega (arith, low)) kept_is wide here in
    let text : bytes ≡ tile_text H (partial_tile (length entries) level) entries = bytes_are ∙ ap (flat_map (λ hash. hash)) slice ∙ partial_text H entries level in
    let not_none : wide_of (length entries) level ≡ 0 → ⊥ = λ none. some (ap (λ (x : ℕ). x % 256) count ∙ none) in
    let made : ℕ → Tile = λ x. record { level = level; index = x / 256; width = x % 256 } in
    (λ i. Some (made (count i), text i)) ∙ sym (ap (shown_made H entries level) (ne_eqb (wide_of (length entries) level) 0 not_none))
