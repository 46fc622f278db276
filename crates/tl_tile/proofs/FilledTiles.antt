-- The tiles that an entry fills are those that are needed with it and were not before.
use Rattle.std.proofs.Common.{◌≡◌, ℕ, ◌+◌, ◌-◌, ◌*◌, ◌/◌, ◌%◌, ◌^◌, ◌<◌, ◌≤◌, inl, inr, List, map, ◌==◌, refl, sym, ap, subst, ◌∙◌, arith}
use Rattle.std.specs.Prelude.{Contains}
use Rattle.std.specs.List.{flat_map, range_with_len}
use Rattle.std.proofs.lemmas.Bool.{cases_lt, eq-eqb, eqb-true}
use Rattle.std.proofs.lemmas.List.Elements.{Contains-append_left, Contains-append_cases}
use Rattle.tl_tile.specs.declared.resource.Tile.{Tile}
use Rattle.tl_tile.specs.declared.resource.Resource.{Resource}
use Rattle.tl_tile.specs.declared.resource.Resource.TheVariants as resource
use Rattle.tl_tile.specs.TileText.{level_count, full_tile}
use Rattle.tl_tile.specs.Needed.{tile_at, pieces, needed_resources}
use Rattle.tl_tile.specs.RightEdge.{filled_levels, filled_tiles}
use Rattle.tl_tile.specs.Inner.Law.{FilledTilesAreNew}
use Rattle.tl_tile.proofs.NeededLemmas.{next_count}
use Rattle.tl_tile.proofs.Levels.{level_parts}
use Rattle.tl_tile.proofs.Fills.{IsFilled, before_count, same_count}
use Rattle.tl_tile.proofs.Members.{map_has, has_map, range_has, has_range, filter_has, has_filter, flat_map_has, has_flat_map, has_one_or_none}

same_tile : (s t : Tile) → resource.Tile s ≡ resource.Tile t → s ≡ t
same_tile s t e = cc

no_tile : (index width : ℕ) (t : Tile) → resource.Entries index width ≡ resource.Tile t → ⊥
no_tile index width t e = cc

-- the bundles are no tiles
bundles_no_tile : (size : ℕ) (t : Tile) → Contains (pieces resource.Entries size) (resource.Tile t) → ⊥
bundles_no_tile size t has =
    elim (Contains-append_cases (map (λ index. resource.Entries index 256) (range_with_len 0 (size / 256))) _ (resource.Tile t) has) as (λ _. ⊥) [
      | inl full ↦ (let found = has_map (λ index. resource.Entries index 256) (range_with_len 0 (size / 256)) (resource.Tile t) full in no_tile found.0 256 t found.2)
      | inr last ↦ no_tile (size / 256) (size % 256) t (has_one_or_none (size % 256 == 0) (resource.Entries (size / 256) (size % 256)) (resource.Tile t) last)
    ]

-- the full tiles of a level
has_full : (level count : ℕ) (t : Tile) → t.width ≡ 256 → Contains (pieces (tile_at level) count) (resource.Tile t) → (t.level ≡ level) × (t.index < count / 256)
has_full level count t wide has =
    elim (Contains-append_cases (map (λ index. tile_at level index 256) (range_with_len 0 (count / 256))) _ (resource.Tile t) has) as (λ _. (t.level ≡ level) × (t.index < count / 256)) [
      | inl full ↦
          let found = has_map (λ index. tile_at level index 256) (range_with_len 0 (count / 256)) (resource.Tile t) full in
          let same : record { level = level; index = found.0; width = 256 } ≡ t = same_tile (record { level = level; index = found.0; width = 256 }) t found.2 in
          let within = has_range 0 (count / 256) found.0 found.1 in
          (sym (ap (λ (x : Tile). x.level) same), omega (arith, within.1, ap (λ (x : Tile). x.index) same))
      | inr last ↦
          let one = has_one_or_none (count % 256 == 0) (tile_at level (count / 256) (count % 256)) (resource.Tile t) last in
          let same : record { level = level; index = count / 256; width = count % 256 } ≡ t = same_tile (record { level = level; index = count / 256; width = count % 256 }) t one in
          absurd (omega (arith, ap (λ (x : Tile). x.width) same, wide))
    ]

needs_full : (size : ℕ) (t : Tile) → t.width ≡ 256 → Contains (needed_resources size) (resource.Tile t) → (t.level < 8) × (t.index < level_count size (t.level + 1))
needs_full size t wide has =
    let f : ℕ → List Resource = λ level. pieces (tile_at level) (level_count size level) in
    elim (Contains-append_cases (flat_map f (range_with_len 0 8)) (pieces resource.Entries size) (resource.Tile t) has) as (λ _. (t.level < 8) × (t.index < level_count size (t.level + 1))) [
      | inl tiles ↦
          let found = has_flat_map f (range_with_len 0 8) (resource.Tile t) tiles in
          let within = has_range 0 8 found.0 found.1 in
          let full = has_full found.0 (level_count size found.0) t wide found.2 in
          let count : level_count size found.0 / 256 ≡ level_count size (t.level + 1) =
          next_count size found.0 (level_count size found.0) refl ∙ ap (λ (x : ℕ). level_count size (x + 1)) (sym full.0) in
          (omega (arith, within.1, full.0), omega (arith, full.1, count))
      | inr bundles ↦ absurd (bundles_no_tile size t bundles)
    ]

full_needed : (size level index : ℕ) → level < 8 → index < level_count size (level + 1) → Contains (needed_resources size) (resource.Tile (full_tile level index))
full_needed size level index low within =
    let f : ℕ → List Resource = λ level. pieces (tile_at level) (level_count size level) in
    let count : level_count size level / 256 ≡ level_count size (level + 1) = next_count size level (level_count size level) refl in
    let own : Contains (f level) (tile_at level index 256) =
    Contains-append_left (map (λ index. tile_at level index 256) (range_with_len 0 (level_count size level / 256))) _ (tile_at level index 256)
    (map_has (λ index. tile_at level index 256) (range_with_len 0 (level_count size level / 256)) index (range_has 0 (level_count size level / 256) index (omega arith) (omega (arith, within, count)))) in
    Contains-append_left (flat_map f (range_with_len 0 8)) (pieces resource.Entries size) (tile_at level index 256)
    (flat_map_has f (range_with_len 0 8) level (tile_at level index 256) (range_has 0 8 level (omega arith) (omega (arith, low))) own)

-- the tiles that an entry fills
fills_level : (size : ℕ) (t : Tile) → Contains (filled_tiles size) t → (t.level < 8) × (size % 256 ^ (t.level + 1) ≡ 0) × (t ≡ full_tile t.level (size / 256 ^ (t.level + 1) - 1))
fills_level size t has =
    let f : ℕ → Tile = λ level. full_tile level (size / 256 ^ (level + 1) - 1) in
    let found = has_map f (filled_levels size) t has in
    let level : found.0 ≡ t.level = ap (λ (x : Tile). x.level) found.2 in
    let passed = has_filter (λ level. size % 256 ^ (level + 1) == 0) (range_with_len 0 8) found.0 found.1 in
    let within = has_range 0 8 found.0 passed.0 in (
      omega (arith, within.1, level),
      ap (λ (x : ℕ). size % 256 ^ (x + 1)) (sym level) ∙ eqb-true (size % 256 ^ (found.0 + 1)) 0 passed.1,
      sym found.2 ∙ ap f level,
    )

level_fills : (size level : ℕ) → level < 8 → size % 256 ^ (level + 1) ≡ 0 → Contains (filled_tiles size) (full_tile level (size / 256 ^ (level + 1) - 1))
level_fills size level low whole =
    map_has (λ level. full_tile level (size / 256 ^ (level + 1) - 1)) (filled_levels size) level
    (filter_has (λ level. size % 256 ^ (level + 1) == 0) (range_with_len 0 8) level (range_has 0 8 level (omega arith) (omega (arith, low))) (eq-eqb (size % 256 ^ (level + 1)) 0 whole))

-- a size that a level divides
is_filled : (n level : ℕ) → (n + 1) % 256 ^ level ≡ 0 → IsFilled (n + 1) level (level_count (n + 1) level)
is_filled n level whole =
    let parts = level_parts (n + 1) level in
    let c : ℕ = level_count (n + 1) level in
    record {
      scaled = omega (arith, parts, whole);
      some =
          elim (cases_lt 0 c) as (λ _. 0 < c) [
            | inl some ↦ some
            | inr empty ↦
                let none : c * 256 ^ level ≡ 0 * 256 ^ level = (let e : c ≡ 0 = omega (arith, empty) in ap (λ (x : ℕ). x * 256 ^ level) e) in
                absurd (omega (arith, none, parts, whole))
          ];
    }

one_fewer : (n level : ℕ) → (n + 1) % 256 ^ level ≡ 0 → level_count n level + 1 ≡ level_count (n + 1) level
one_fewer n level whole =
    let filled = is_filled n level whole in
    let before : n + 1 - 1 ≡ n = omega arith in
    omega (arith, filled.some, before_count (n + 1) level (level_count (n + 1) level) filled, ap (λ (x : ℕ). level_count x level) before)

as_before : (n level : ℕ) → 0 < (n + 1) % 256 ^ level → level_count n level ≡ level_count (n + 1) level
as_before n level some =
    let before : n + 1 - 1 ≡ n = omega arith in
    sym (ap (λ (x : ℕ). level_count x level) before) ∙ same_count (n + 1) level some

pub filled_are_new : FilledTilesAreNew
filled_are_new n t = (
  λ has.
      let found = fills_level (n + 1) t has in
      let up : ℕ = t.level + 1 in
      let index : t.index ≡ level_count (n + 1) up - 1 = ap (λ (x : Tile). x.index) found.2 in
      let wide : t.width ≡ 256 = ap (λ (x : Tile). x.width) found.2 in
      let more = one_fewer n up found.1 in
      let tile : full_tile t.level t.index ≡ t = (λ i. full_tile t.level (index i)) ∙ sym found.2 in (
        wide,
        subst (λ (x : Tile). Contains (needed_resources (n + 1)) (resource.Tile x)) tile (full_needed (n + 1) t.level t.index found.0 (omega (arith, index, more))),
        λ before. omega (arith, (needs_full n t wide before).1, index, more),
      ),
  λ (wide, after, not_before).
      let found = needs_full (n + 1) t wide after in
      let up : ℕ = t.level + 1 in
      let tile : full_tile t.level t.index ≡ t = (λ i. record { level = t.level; index = t.index; width = sym wide i }) in
      let past : level_count n up ≤ t.index =
      elim (cases_lt t.index (level_count n up)) as (λ _. level_count n up ≤ t.index) [
        | inl within ↦ absurd (not_before (subst (λ (x : Tile). Contains (needed_resources n) (resource.Tile x)) tile (full_needed n t.level t.index found.0 within)))
        | inr past ↦ past
      ] in
      let whole : (n + 1) % 256 ^ up ≡ 0 =
      elim (cases_lt 0 ((n + 1) % 256 ^ up)) as (λ _. (n + 1) % 256 ^ up ≡ 0) [
        | inl some ↦ absurd (omega (arith, as_before n up some, past, found.1))
        | inr none ↦ omega (arith, none)
      ] in
      let index : level_count (n + 1) up - 1 ≡ t.index = omega (arith, one_fewer n up whole, past, found.1) in
      subst (λ (x : Tile). Contains (filled_tiles (n + 1)) x) ((λ i. full_tile t.level (index i)) ∙ tile) (level_fills (n + 1) t.level found.0 whole),
)
