-- No two resources have one path.
use Rattle.std.proofs.Common.{◌≡◌, ℕ, ◌+◌, ◌^◌, ◌<◌, ◌≤◌, List, ◌++◌, length, get_or, drop, refl, sym, ap, ◌∙◌, arith, inl, inr, Option, Some, None}
use Rattle.std.specs.Prelude.{◌≢◌, decimal, codes, IfSome, IfNone, MatchOption}
use Rattle.std.proofs.lemmas.Bool.{cases_lt}
use Rattle.std.proofs.lemmas.List.{append_cancel_left}
use Rattle.tl_tile.specs.declared.resource.Tile.{Tile}
use Rattle.tl_tile.specs.declared.resource.Resource.{Resource}
use Rattle.tl_tile.specs.declared.resource.Resource.TheVariants as resource
use Rattle.tl_tile.specs.Path.{IsTile, IsResource, path_text, index_text, width_text, piece_text}
use Rattle.tl_tile.specs.Inner.ReadPath.{leading_number, tile_piece_text, HasNoTile, IsTilePath}
use Rattle.tl_tile.proofs.PathLemmas.{full_width, part_width, number_decimal, number_place, no_resource}

part_is_not_full : (v w : ℕ) → v < 256 → w ≡ 256 → width_text v ≡ width_text w → ⊥
part_is_not_full v w few full e = absurd (omega (arith, ap length (sym (part_width v few) ∙ e ∙ full_width w full)))

one_width : (v w : ℕ) → v ≤ 256 → w ≤ 256 → width_text v ≡ width_text w → v ≡ w
one_width v w small_v small_w e = elim (cases_lt v 256) as (λ _. v ≡ w) [
  | inl few_v ↦ elim (cases_lt w 256) as (λ _. v ≡ w) [
    | inl few_w ↦
        let same : decimal v ≡ decimal w = append_cancel_left (codes ".p/") (decimal v) (decimal w) (sym (part_width v few_v) ∙ e ∙ part_width w few_w) in
        sym (number_decimal v (omega (arith, few_v))) ∙ ap (leading_number 0) same ∙ number_decimal w (omega (arith, few_w))
    | inr full_w ↦ absurd (part_is_not_full v w few_v (omega (arith, full_w, small_w)) e)
  ]
  | inr full_v ↦ elim (cases_lt w 256) as (λ _. v ≡ w) [
    | inl few_w ↦ absurd (part_is_not_full w v few_w (omega (arith, full_v, small_v)) (sym e))
    | inr full_w ↦ omega (arith, full_v, small_v, full_w, small_w)
  ]
]

one_place : (i j v w : ℕ) → i < 2 ^ 56 → j < 2 ^ 56 → v ≤ 256 → w ≤ 256 → piece_text i v ≡ piece_text j w → (i ≡ j) × (v ≡ w)
one_place i j v w small_i small_j small_v small_w e =
    let index : i ≡ j = sym (number_place i v small_i) ∙ ap (leading_number 0) e ∙ number_place j w small_j in
    (index, one_width v w small_v small_w (append_cancel_left (index_text i) (width_text v) (width_text w) (e ∙ ap (λ (k : ℕ). piece_text k w) (sym index))))

made_tile : ℕ → ℕ → ℕ → Resource
made_tile level index width = resource.Tile (record { level = level; index = index; width = width })

one_tile : (a b : Tile) → IsTile a → IsTile b → tile_piece_text a ≡ tile_piece_text b → resource.Tile a ≡ resource.Tile b
unfolding made_tile
one_tile a b is_a is_b e =
    let digits : 48 + a.level ≡ 48 + b.level = ap (λ (t : List ℕ). get_or t 0 0) e in
    let level : a.level ≡ b.level = omega (arith, digits) in
    let places : piece_text a.index a.width ≡ piece_text b.index b.width = ap (drop 2) e in
    let place = one_place a.index b.index a.width b.width is_a.index is_b.index is_a.narrow is_b.narrow places in
    (λ i. made_tile (level i) (place.0 i) (place.1 i))

tile_is_no_bundle : (t : Tile) (index width : ℕ) → IsTile t → path_text (resource.Tile t) ≡ path_text (resource.Entries index width) → ⊥
tile_is_no_bundle t index width is e =
    let digit : 48 + t.level ≡ 101 = ap (λ (t : List ℕ). get_or t 5 0) e in
    absurd (omega (arith, digit, is.level))

-- two resources with one path are one
pub one_path : (a b : Resource) → IsResource a → IsResource b → path_text a ≡ path_text b → a ≡ b
one_path (resource.Tile a) (resource.Tile b) is_a is_b e = one_tile a b is_a is_b (append_cancel_left (codes "tile/") (tile_piece_text a) (tile_piece_text b) e)
one_path (resource.Tile a) (resource.Entries j w) is_a is_b e = absurd (tile_is_no_bundle a j w is_a e)
one_path (resource.Tile a) resource.Checkpoint is_a is_b e = (let c : 116 ≡ 99 = ap (λ (t : List ℕ). get_or t 0 0) e in absurd (omega (arith, c)))
one_path (resource.Entries i v) (resource.Tile b) is_a is_b e = absurd (tile_is_no_bundle b i v is_b (sym e))
one_path (resource.Entries i v) (resource.Entries j w) is_a is_b e =
    let place = one_place i j v w is_a.0 is_b.0 is_a.2 is_b.2 (append_cancel_left (codes "tile/entries/") (piece_text i v) (piece_text j w) e) in
    (λ k. resource.Entries (place.0 k) (place.1 k))
one_path (resource.Entries i v) resource.Checkpoint is_a is_b e = (let c : 116 ≡ 99 = ap (λ (t : List ℕ). get_or t 0 0) e in absurd (omega (arith, c)))
one_path resource.Checkpoint (resource.Tile b) is_a is_b e = (let c : 99 ≡ 116 = ap (λ (t : List ℕ). get_or t 0 0) e in absurd (omega (arith, c)))
one_path resource.Checkpoint (resource.Entries j w) is_a is_b e = (let c : 99 ≡ 116 = ap (λ (t : List ℕ). get_or t 0 0) e in absurd (omega (arith, c)))
one_path resource.Checkpoint resource.Checkpoint is_a is_b e = refl

-- the resource that was read is the only one with this path
pub only_path : (text : List ℕ) (r : Option Resource) → IfSome r (λ resource. IsResource resource × (path_text resource ≡ text)) → IfNone r ((resource : Resource) → IsResource resource → path_text resource ≢ text)
    → (resource : Resource) → IsResource resource → path_text resource ≡ text → r ≡ Some resource
only_path text (Some found) is none resource lawful e = ap Some (one_path found resource is.0 lawful (is.1 ∙ sym e))
only_path text None is none resource lawful e = absurd (none resource lawful e)

found_tile : (text rest : List ℕ) (r : Option Resource) → text ≡ codes "tile/" ++ rest → MatchOption r (HasNoTile rest) (λ resource. IsTilePath rest resource)
    → IfSome r (λ resource. IsResource resource × (path_text resource ≡ text))
found_tile text rest None joined is = tt
found_tile text rest (Some (resource.Tile t)) joined is = (is.0, ap (λ (t : List ℕ). codes "tile/" ++ t) (sym is.1) ∙ sym joined)
found_tile text rest (Some (resource.Entries index width)) joined is = absurd is
found_tile text rest (Some resource.Checkpoint) joined is = absurd is

pub only_tile : (text rest : List ℕ) (r : Option Resource) → text ≢ codes "checkpoint" → ((more : List ℕ) → text ≢ codes "tile/entries/" ++ more) → text ≡ codes "tile/" ++ rest
    → MatchOption r (HasNoTile rest) (λ resource. IsTilePath rest resource) → (resource : Resource) → IsResource resource → path_text resource ≡ text → r ≡ Some resource
only_tile text rest r not_head not_entries joined is = only_path text r (found_tile text rest r joined is) (no_resource text rest r not_head not_entries joined is)
