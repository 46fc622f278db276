-- The resources of a log are lawful and lie within its entries.
use Rattle.std.proofs.Common.{◌≡◌, ◌⊎◌, ℕ, ◌+◌, ◌*◌, ◌/◌, ◌%◌, ◌^◌, ◌<◌, ◌≤◌, inl, inr, Bool, true, false, cond, List, [], ◌∷◌, map, ◌==◌, refl, subst, arith}
use Rattle.std.specs.Prelude.{Contains}
use Rattle.std.specs.List.{flat_map, range_with_len}
use Rattle.std.proofs.Math.Nat.{mul-le-mul_right, div-mul-le_self, div-le_self}
use Rattle.std.proofs.lemmas.Bool.{eqb-false}
use Rattle.std.proofs.lemmas.Nat.{mod_below, div-add-mod'}
use Rattle.std.proofs.lemmas.List.Elements.{Contains-append_cases}
use Rattle.tl_tile.specs.declared.resource.Resource.{Resource}
use Rattle.tl_tile.specs.declared.resource.Resource.TheVariants as resource
use Rattle.tl_tile.specs.TileText.{level_count}
use Rattle.tl_tile.specs.Path.{IsTile, IsResource}
use Rattle.tl_tile.specs.ReadTile.{end_of}
use Rattle.tl_tile.specs.Needed.{tile_at, pieces, needed_resources}
use Rattle.tl_tile.proofs.Members.{has_map, has_range, has_flat_map, has_one_or_none}
use Rattle.tl_command.specs.Mirror.{mirrored}

-- the resource is lawful, and lies within this many entries; a bundle that isn't full is the last one
abbrev pub LiesIn : ℕ → Resource → Type 0
LiesIn size (resource.Tile t) = IsTile t × (end_of t ≤ size)
LiesIn size (resource.Entries index width) =
    (index < 2 ^ 56) × (0 < width) × (width ≤ 256) × (index * 256 + width ≤ size) × ((width ≡ 256) ⊎ (index * 256 + width ≡ size))
LiesIn size resource.Checkpoint = Unit {0}

-- one element or none: there is one, and it is this
one_only : {X : Type 0} (test : Bool) (x y : X) → Contains (cond test [] (x ∷ [])) y → (test ≡ false) × (x ≡ y)
one_only true x y (k, less, at) = absurd (omega (arith, less))
one_only false x y has = (refl, has_one_or_none false x y has)

-- what holds of each piece within the count holds of all pieces
of_pieces : (P : Resource → Type 0) (piece : ℕ → ℕ → Resource) (count : ℕ) (r : Resource)
    → ((index width : ℕ) → 0 < width → width ≤ 256 → index * 256 + width ≤ count → (width ≡ 256) ⊎ (index * 256 + width ≡ count) → P (piece index width)) → Contains (pieces piece count) r → P r
of_pieces P piece count r each has =
    let parts : count / 256 * 256 + count % 256 ≡ count = div-add-mod' count 256 in
    let rest : count % 256 < 256 = mod_below count 256 (omega arith) in
    elim (Contains-append_cases (map (λ index. piece index 256) (range_with_len 0 (count / 256))) _ r has) as (λ _. P r) [
      | inl full ↦
          let found = has_map (λ index. piece index 256) (range_with_len 0 (count / 256)) r full in
          let within = has_range 0 (count / 256) found.0 found.1 in
          subst P found.2 (each found.0 256 (omega arith) (omega arith) (omega (arith, within.1, parts)) (inl refl))
      | inr last ↦
          let one = one_only (count % 256 == 0) (piece (count / 256) (count % 256)) r last in
          let some : count % 256 ≡ 0 → ⊥ = eqb-false (count % 256) 0 one.0 in
          subst P one.1 (each (count / 256) (count % 256) (omega (arith, some)) (omega (arith, rest)) (omega (arith, parts)) (inr parts))
    ]

-- a tile of a level within the level's hashes
tile_lies : (size level index width : ℕ) → size < 2 ^ 32 → level < 8 → 0 < width → width ≤ 256 → index * 256 + width ≤ level_count size level
    → LiesIn size (tile_at level index width)
tile_lies size level index width small low wide narrow within =
    let under : (index * 256 + width) * 256 ^ level ≤ level_count size level * 256 ^ level = mul-le-mul_right (256 ^ level) within in
    let below : level_count size level * 256 ^ level ≤ size = div-mul-le_self size (256 ^ level) in
    let count : level_count size level ≤ size = div-le_self size (256 ^ level) in
    (record { level = omega (arith, low); index = omega (arith, within, count, small); wide = wide; narrow = narrow }, omega (arith, under, below))

pub lies : (size : ℕ) (r : Resource) → size < 2 ^ 32 → Contains (mirrored size) r → LiesIn size r
lies size r small has =
    let f : ℕ → List Resource = λ level. pieces (tile_at level) (level_count size level) in
    elim (Contains-append_cases (needed_resources size) (resource.Checkpoint ∷ []) r has) as (λ _. LiesIn size r) [
      | inl needed ↦
          elim (Contains-append_cases (flat_map f (range_with_len 0 8)) (pieces resource.Entries size) r needed) as (λ _. LiesIn size r) [
            | inl tiles ↦
                let found = has_flat_map f (range_with_len 0 8) r tiles in
                let level = has_range 0 8 found.0 found.1 in
                of_pieces (LiesIn size) (tile_at found.0) (level_count size found.0) r
                (λ index width wide narrow within last. tile_lies size found.0 index width small (omega (arith, level.1)) wide narrow within) found.2
            | inr bundles ↦
                of_pieces (LiesIn size) resource.Entries size r (λ index width wide narrow within last. (omega (arith, within, small), wide, narrow, within, last)) bundles
          ]
      | inr last ↦ (let one : resource.Checkpoint ≡ r = has_one_or_none false resource.Checkpoint r last in subst (LiesIn size) one tt)
    ]

pub lawful : (size : ℕ) (r : Resource) → LiesIn size r → IsResource r
lawful size (resource.Tile t) is = is.0
lawful size (resource.Entries index width) is = (is.0, is.1, is.2)
lawful size resource.Checkpoint is = tt
