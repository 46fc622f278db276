-- What a log needs lies within it.
use Rattle.std.proofs.Common.{◌≡◌, ℕ, ◌+◌, ◌*◌, ◌/◌, ◌%◌, ◌^◌, ◌-◌, ◌<◌, ◌≤◌, zero, suc, refl, inl, inr, Bool, true, false, cond, ◌==◌, List, [], ◌∷◌, map, subst, arith}
use Rattle.std.specs.Prelude.{Contains, ◌≢◌}
use Rattle.std.specs.List.{flat_map, range_with_len}
use Rattle.std.proofs.Math.Nat.{div-le_self}
use Rattle.std.proofs.lemmas.Bool.{eqb-false}
use Rattle.std.proofs.lemmas.List.Elements.{Contains-append_cases}
use Rattle.tl_tile.specs.declared.resource.Tile.{Tile}
use Rattle.tl_tile.specs.declared.resource.Resource.{Resource}
use Rattle.tl_tile.specs.declared.resource.Resource.TheVariants as resource
use Rattle.tl_tile.specs.TileText.{level_count}
use Rattle.tl_tile.specs.Path.{IsResource}
use Rattle.tl_tile.specs.Needed.{tile_at, pieces, needed_resources}
use Rattle.tl_tile.proofs.Members.{has_map, has_range, has_flat_map, has_one_or_none}
use Rattle.tl_tile.proofs.Levels.{level_parts}
use Rattle.tl_tile.proofs.TileTexts.{scaled_le}
use Rattle.tl_archive.specs.Inner.Pieces.{LiesWithin}

-- each piece of a row lies within it
has_piece : (piece : ℕ → ℕ → Resource) (count : ℕ) (r : Resource) → Contains (pieces piece count) r → (i : ℕ) × (w : ℕ) × (piece i w ≡ r) × (i * 256 + w ≤ count)
has_piece piece count r has =
    let full = map (λ i. piece i 256) (range_with_len 0 (count / 256)) in
    elim (Contains-append_cases full (cond (count % 256 == 0) [] (piece (count / 256) (count % 256) ∷ [])) r has) as (λ _. (i : ℕ) × (w : ℕ) × (piece i w ≡ r) × (i * 256 + w ≤ count)) [
      | inl own ↦
          let found = has_map (λ i. piece i 256) (range_with_len 0 (count / 256)) r own in
          let within = has_range 0 (count / 256) found.0 found.1 in
          (found.0, 256, found.2, omega (arith, within.1))
      | inr own ↦
          let same = has_one_or_none (count % 256 == 0) (piece (count / 256) (count % 256)) r own in
          (count / 256, count % 256, same, omega arith)
    ]

tile_within : (level index width size : ℕ) → index * 256 + width ≤ level_count size level → (index * 256 + width) * 256 ^ level ≤ size
tile_within level index width size le =
    let m = scaled_le (index * 256 + width) (level_count size level) (256 ^ level) le in
    let parts = level_parts size level in
    omega (arith, m, parts)

tile_is_none : (t : Tile) → resource.Tile t ≢ resource.Checkpoint
tile_is_none t e = cc

bundle_is_none : (i w : ℕ) → resource.Entries i w ≢ resource.Checkpoint
bundle_is_none i w e = cc

pub needed_within : (size : ℕ) (r : Resource) → Contains (needed_resources size) r → LiesWithin size r × (r ≢ resource.Checkpoint)
needed_within size r has =
    let f : ℕ → List Resource = λ level. pieces (tile_at level) (level_count size level) in
    elim (Contains-append_cases (flat_map f (range_with_len 0 8)) (pieces resource.Entries size) r has) as (λ _. LiesWithin size r × (r ≢ resource.Checkpoint)) [
      | inl tiles ↦
          let found = has_flat_map f (range_with_len 0 8) r tiles in
          let one = has_piece (tile_at found.0) (level_count size found.0) r found.2 in
          subst (λ (s : Resource). LiesWithin size s × (s ≢ resource.Checkpoint)) one.2
          (tile_within found.0 one.0 one.1 size one.3, tile_is_none (record { level = found.0; index = one.0; width = one.1 }))
      | inr bundles ↦
          let one = has_piece resource.Entries size r bundles in
          subst (λ (s : Resource). LiesWithin size s × (s ≢ resource.Checkpoint)) one.2 (one.3, bundle_is_none one.0 one.1)
    ]

-- ---- each is a lawful resource

one_when : (test : Bool) (x y : Resource) → Contains (cond test [] (x ∷ [])) y → (test ≡ false) × (x ≡ y)
one_when true x y (k, less, at) = absurd (omega (arith, less))
one_when false x y (zero, less, at) = (refl, at)
one_when false x y (suc k, less, at) = absurd (omega (arith, less))

wide_piece : (piece : ℕ → ℕ → Resource) (count : ℕ) (r : Resource) → Contains (pieces piece count) r → (i : ℕ) × (w : ℕ) × (piece i w ≡ r) × (i * 256 + w ≤ count) × (0 < w) × (w ≤ 256)
wide_piece piece count r has =
    let full = map (λ i. piece i 256) (range_with_len 0 (count / 256)) in
    elim (Contains-append_cases full (cond (count % 256 == 0) [] (piece (count / 256) (count % 256) ∷ [])) r has) as (λ _. (i : ℕ) × (w : ℕ) × (piece i w ≡ r) × (i * 256 + w ≤ count) × (0 < w) × (w ≤ 256)) [
      | inl own ↦
          let found = has_map (λ i. piece i 256) (range_with_len 0 (count / 256)) r own in
          let within = has_range 0 (count / 256) found.0 found.1 in
          (found.0, 256, found.2, omega (arith, within.1), omega arith, omega arith)
      | inr own ↦
          let one = one_when (count % 256 == 0) (piece (count / 256) (count % 256)) r own in
          let some : count % 256 ≡ 0 → ⊥ = eqb-false (count % 256) 0 one.0 in
          (count / 256, count % 256, one.1, omega arith, omega (arith, some), omega arith)
    ]

pub needed_lawful : (size : ℕ) (r : Resource) → size ≤ 2 ^ 32 - 1 → Contains (needed_resources size) r → IsResource r
needed_lawful size r small has =
    let f : ℕ → List Resource = λ level. pieces (tile_at level) (level_count size level) in
    elim (Contains-append_cases (flat_map f (range_with_len 0 8)) (pieces resource.Entries size) r has) as (λ _. IsResource r) [
      | inl tiles ↦
          let found = has_flat_map f (range_with_len 0 8) r tiles in
          let low = has_range 0 8 found.0 found.1 in
          let one = wide_piece (tile_at found.0) (level_count size found.0) r found.2 in
          let count : level_count size found.0 ≤ size = div-le_self size (256 ^ found.0) in
          subst IsResource one.2 (record { level = omega (arith, low.1); index = omega (arith, one.3, count, small); wide = one.4; narrow = one.5 })
      | inr bundles ↦
          let one = wide_piece resource.Entries size r bundles in
          subst IsResource one.2 (omega (arith, one.3, small), one.4, one.5)
    ]
