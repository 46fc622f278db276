-- How the partial tiles fold to the root, from the lowest level up: the hashes of a level's partial tile,
-- and after them the hash of what the lower levels have.
use Rattle.std.proofs.Common.{◌≡◌, ℕ, ◌+◌, ◌-◌, ◌*◌, ◌/◌, ◌%◌, ◌^◌, ◌<◌, ◌≤◌, List, [], ◌∷◌, ◌++◌, length, take, drop, Option, Some, None, refl, sym, ap, subst, ◌∙◌, arith}
use Rattle.std.proofs.Math.Arith.{mod-mul}
use Rattle.std.proofs.lemmas.Nat.{pow-add, mod_below, mod-mul-add}
use Rattle.std.proofs.lemmas.List.{drop-append-le, drop_at, take-append-le, length-drop, take_all}
use Rattle.std.specs.Int.{IsPowerOfTwo}
use Rattle.tl_hash.specs.Bytes.{Digest}
use Rattle.tl_hash.specs.Split.{IsSplit}
use Rattle.tl_hash.specs.Tree.{node_input}
use Rattle.tl_hash.proofs.SplitLemmas.{IsSplit-positive}
use Rattle.tl_tile.specs.declared.resource.Tile.{Tile}
use Rattle.tl_tile.specs.TileText.{level_count, partial_tile}
use Rattle.tl_tile.specs.Folds.{Tiles, IsFold, nothing, given, split, IsHashAt, IsOnEdge, IsOwnHash, IsEdgeHash}
use Rattle.tl_tile.specs.FetchedEdge.{IsEdgeLevel, HasEdge}
use Rattle.tl_tile.specs.Inner.EdgeRoot.{Joined, IsRestHash}
use Rattle.tl_tile.proofs.Segments.{IsSplit-scaled, power_of_256, scaled_le}
use Rattle.tl_tile.proofs.Edges.{Some-injective, positive_256, nothing_above}
use Rattle.tl_tile.proofs.Checked.{level_count-above}
use Rattle.tl_tile.proofs.TileTexts.{tile_height}

-- the first place of a level's partial tile, and its width
abbrev pub base : ℕ → ℕ → ℕ
base size level = level_count size level / 256 * 256

abbrev pub wide_of : ℕ → ℕ → ℕ
wide_of size level = level_count size level % 256

-- hashes of the partial tile are on the edge
own_on_edge : (size level n : ℕ) → n < wide_of size level → IsOnEdge size level (base size level + n)
own_on_edge size level n less = (omega arith, omega (arith, less))

own_is_edge : (tiles : Tiles) (size level : ℕ) (text : List ℕ) → IsEdgeLevel tiles size level text → (n : ℕ) (h : List ℕ) → n < wide_of size level → IsHashAt text n h
    → IsEdgeHash tiles size ((base size level + n) * 256 ^ level) (256 ^ level) h
own_is_edge tiles size level text at n h less is =
    let small : n < 256 = omega (arith, less) in
    let column : (base size level + n) % 256 ≡ n = mod-mul-add (level_count size level / 256) 256 n small in
    record {
      level = level;
      place = base size level + n;
      text = text;
      starts = refl;
      counts = refl;
      on_edge = own_on_edge size level n less;
      fetched = at.fetched;
      there = subst (λ (x : ℕ). IsHashAt text x h) (sym column) is;
    }

-- no hash of an edge is over more than one place of a partial tile
no_edge_over : (tiles : Tiles) (size level n count : ℕ) → n < wide_of size level → 256 ^ level < count → (h : List ℕ) → IsEdgeHash tiles size ((base size level + n) * 256 ^ level) count h → ⊥
no_edge_over tiles size level n count less more h is =
    nothing_above size level (base size level + n) is.level is.place (own_on_edge size level n less) (omega (arith, more, is.counts)) is.on_edge.1
    (omega (arith, is.starts, positive_256 is.level))

-- some hashes of the partial tile, as a fold of the edge
pub edge_part : (H : Digest) (tiles : Tiles) (size level : ℕ) (text : List ℕ) → IsEdgeLevel tiles size level text
    → (more : List ℕ) → ((n : ℕ) (h : List ℕ) → n < wide_of size level → IsHashAt more n h → IsHashAt text n h)
    → (start count : ℕ) (hash : List ℕ) (strings : List (List ℕ)) → IsFold H (IsOwnHash more) start count hash strings → start + count ≤ wide_of size level
    → IsFold H (IsEdgeHash tiles size) ((base size level + start) * 256 ^ level) (count * 256 ^ level) hash strings
edge_part H tiles size level text at more same start count hash strings (nothing s) within =
    let none : 0 ≡ 0 * 256 ^ level = omega arith in
    subst (λ (x : ℕ). IsFold H (IsEdgeHash tiles size) ((base size level + s) * 256 ^ level) x (H []) ([] ∷ [])) none (nothing ((base size level + s) * 256 ^ level))
edge_part H tiles size level text at more same start count hash strings (given s c h some is) within =
    let one : 256 ^ level ≡ c * 256 ^ level = (let e : 1 * 256 ^ level ≡ c * 256 ^ level = ap (λ (x : ℕ). x * 256 ^ level) (sym is.0) in omega (arith, e)) in
    let less : s < wide_of size level = omega (arith, within, is.0) in
    subst (λ (x : ℕ). IsFold H (IsEdgeHash tiles size) ((base size level + s) * 256 ^ level) x h []) one
    (given ((base size level + s) * 256 ^ level) (256 ^ level) h (positive_256 level) (own_is_edge tiles size level text at s h less (same s h less is.1)))
edge_part H tiles size level text at more same start count hash strings (split s c k left right lefts rights none at_split first second) within =
    let u : ℕ = 256 ^ level in
    let b : ℕ = base size level in
    let some : 0 < k = IsSplit-positive k c at_split in
    let twice : 2 * u ≤ c * u = scaled_le 2 c u (omega (arith, some, at_split.below)) in
    let left_fold = edge_part H tiles size level text at more same s k left lefts first (omega (arith, within, at_split.below)) in
    let right_fold = edge_part H tiles size level text at more same (s + k) (c - k) right rights second (omega (arith, within, at_split.below)) in
    let from : (b + (s + k)) * u ≡ (b + s) * u + k * u = omega arith in
    let whole : c * u ≡ k * u + (c - k) * u = (let e : c ≡ k + (c - k) = omega (arith, at_split.below) in ap (λ (x : ℕ). x * u) e ∙ omega arith) in
    let rest : (c - k) * u ≡ c * u - k * u = omega (arith, whole) in
    split ((b + s) * u) (c * u) (k * u) left right lefts rights
    (no_edge_over tiles size level s (c * u) (omega (arith, within, some, at_split.below)) (omega (arith, twice, positive_256 level)))
    (IsSplit-scaled k c u (power_of_256 level) at_split)
    left_fold
    (subst (λ (x : ℕ). IsFold H (IsEdgeHash tiles size) ((b + s) * u + k * u) x right rights) rest
    (subst (λ (x : ℕ). IsFold H (IsEdgeHash tiles size) x ((c - k) * u) right rights) from right_fold))

-- what the levels below this one have: the last size % 256 ^ level entries
abbrev pub Below : (List ℕ → List ℕ) → Tiles → ℕ → ℕ → List ℕ → Type 0
Below H tiles size level hash =
    (strings : List (List ℕ)) × IsFold H (IsEdgeHash tiles size) (level_count size level * 256 ^ level) (size % 256 ^ level) hash strings

-- a split with a rest that is smaller than one place
IsSplit-with_rest : (k n u r : ℕ) → IsPowerOfTwo u → IsSplit k n → 0 < r → r < u → IsSplit (k * u) ((n - 1) * u + r)
IsSplit-with_rest k n u r power s some less =
    let scaled : IsSplit (k * u) (n * u) = IsSplit-scaled k n u power s in
    let one_less : n ≡ n - 1 + 1 = omega (arith, s.below) in
    let parts : n * u ≡ (n - 1) * u + u = ap (λ (x : ℕ). x * u) one_less ∙ omega arith in
    let low : k * u ≤ (n - 1) * u = scaled_le k (n - 1) u (omega (arith, s.below)) in
    record { power = scaled.power; below = omega (arith, low, some); largest = omega (arith, scaled.largest, parts, less) }

-- the hashes of the partial tile, and the hash of what is below at their end, as a fold of the edge
pub edge_last : (H : Digest) (tiles : Tiles) (size level : ℕ) (text : List ℕ) → IsEdgeLevel tiles size level text
    → (more rest : List ℕ) → ((n : ℕ) (h : List ℕ) → n < wide_of size level → IsHashAt more n h → IsHashAt text n h)
    → ((h : List ℕ) → IsHashAt more (wide_of size level) h → h ≡ rest)
    → 0 < size % 256 ^ level → Below H tiles size level rest
    → (start count : ℕ) (hash : List ℕ) (strings : List (List ℕ)) → IsFold H (IsOwnHash more) start count hash strings → start + count ≡ wide_of size level + 1 → 0 < count
    → (x : List (List ℕ)) × IsFold H (IsEdgeHash tiles size) ((base size level + start) * 256 ^ level) ((count - 1) * 256 ^ level + size % 256 ^ level) hash x
edge_last H tiles size level text at more rest same end some below start count hash strings (nothing s) sum positive = absurd (omega (arith, positive))
edge_last H tiles size level text at more rest same end some below start count hash strings (given s c h positive_too is) sum positive =
    let u : ℕ = 256 ^ level in
    let last : s ≡ wide_of size level = omega (arith, sum, is.0) in
    let hash_is : h ≡ rest = end h (subst (λ (x : ℕ). IsHashAt more x h) last is.1) in
    let places : level_count size level ≡ base size level + s = omega (arith, last) in
    let from : level_count size level * u ≡ (base size level + s) * u = ap (λ (x : ℕ). x * u) places in
    let none : 0 * u ≡ (c - 1) * u = (let e : 0 ≡ c - 1 = omega (arith, is.0) in ap (λ (x : ℕ). x * u) e) in
    let count_is : size % u ≡ (c - 1) * u + size % u = omega (arith, none) in (
      below.0,
      subst (λ (x : ℕ). IsFold H (IsEdgeHash tiles size) ((base size level + s) * u) x h below.0) count_is
          (subst (λ (x : ℕ). IsFold H (IsEdgeHash tiles size) x (size % u) h below.0) from
          (subst (λ (x : List ℕ). IsFold H (IsEdgeHash tiles size) (level_count size level * u) (size % u) x below.0) (sym hash_is) below.1)),
    )
edge_last H tiles size level text at more rest same end some below start count hash strings (split s c k left right lefts rights none at_split first second) sum positive =
    let u : ℕ = 256 ^ level in
    let b : ℕ = base size level in
    let r : ℕ = size % u in
    let small : r < u = mod_below size u (positive_256 level) in
    let k_some : 0 < k = IsSplit-positive k c at_split in
    let left_fold = edge_part H tiles size level text at more same s k left lefts first (omega (arith, sum, at_split.below)) in
    let right_fold = edge_last H tiles size level text at more rest same end some below (s + k) (c - k) right rights second (omega (arith, sum, at_split.below)) (omega (arith, at_split.below)) in
    let from : (b + (s + k)) * u ≡ (b + s) * u + k * u = omega arith in
    let whole : (c - 1) * u ≡ k * u + (c - k - 1) * u = (let e : c - 1 ≡ k + (c - k - 1) = omega (arith, at_split.below) in ap (λ (x : ℕ). x * u) e ∙ omega arith) in
    let tail : (c - k - 1) * u + r ≡ (c - 1) * u + r - k * u = omega (arith, whole) in
    let one : 1 * u ≤ (c - 1) * u = scaled_le 1 (c - 1) u (omega (arith, k_some, at_split.below)) in (
      node_input left right ∷ lefts ++ right_fold.0,
      split ((b + s) * u) ((c - 1) * u + r) (k * u) left right lefts right_fold.0
          (no_edge_over tiles size level s ((c - 1) * u + r) (omega (arith, sum, k_some, at_split.below)) (omega (arith, one, some)))
          (IsSplit-with_rest k c u r (power_of_256 level) at_split some small)
          left_fold
          (subst (λ (x : ℕ). IsFold H (IsEdgeHash tiles size) ((b + s) * u + k * u) x right right_fold.0) tail
          (subst (λ (x : ℕ). IsFold H (IsEdgeHash tiles size) x ((c - k - 1) * u + r) right right_fold.0) from right_fold.1)),
    )

-- ---- one level up

above-start : (size level : ℕ) → level_count size (level + 1) * 256 ^ (level + 1) ≡ (base size level + 0) * 256 ^ level
above-start size level =
    let power : 256 ^ (level + 1) ≡ 256 ^ level * 256 = pow-add 256 level 1 in
    let count = level_count-above size level in
    (λ i. count i * power i) ∙ omega arith

above-rest : (size level : ℕ) → size % 256 ^ (level + 1) ≡ wide_of size level * 256 ^ level + size % 256 ^ level
above-rest size level =
    let power : 256 ^ (level + 1) ≡ 256 * 256 ^ level = pow-add 256 level 1 ∙ omega arith in
    ap (λ (x : ℕ). size % x) power ∙ mod-mul size (omega arith) (positive_256 level)

-- a level without a partial tile
pub below-none : (H : Digest) (tiles : Tiles) (size level : ℕ) (below : Option (List ℕ)) → wide_of size level ≡ 0 → IsRestHash H tiles size level below → IsRestHash H tiles size (level + 1) below
below-none H tiles size level None none is =
    let product : wide_of size level * 256 ^ level ≡ 0 * 256 ^ level = ap (λ (x : ℕ). x * 256 ^ level) none in
    omega (arith, above-rest size level, product, is)
below-none H tiles size level (Some hash) none (some, strings, fold) =
    let product : wide_of size level * 256 ^ level ≡ 0 * 256 ^ level = ap (λ (x : ℕ). x * 256 ^ level) none in
    let rest : size % 256 ^ level ≡ size % 256 ^ (level + 1) = omega (arith, above-rest size level, product) in
    let places : level_count size level ≡ base size level + 0 = omega (arith, none) in
    let start : level_count size level * 256 ^ level ≡ level_count size (level + 1) * 256 ^ (level + 1) = ap (λ (x : ℕ). x * 256 ^ level) places ∙ sym (above-start size level) in (
      omega (arith, some, rest),
      strings,
      subst (λ (x : ℕ). IsFold H (IsEdgeHash tiles size) x (size % 256 ^ (level + 1)) hash strings) start
          (subst (λ (x : ℕ). IsFold H (IsEdgeHash tiles size) (level_count size level * 256 ^ level) x hash strings) rest fold),
    )

-- a hash within the first of two texts, and one at the start of the second
at_first : (text last : List ℕ) (n w : ℕ) (h : List ℕ) → length text ≡ 32 * w → n < w → IsHashAt (text ++ last) n h → IsHashAt text n h
at_first text last n w h long less is =
    record { bytes = is.bytes ∙ ap (take 32) (drop-append-le (32 * n) text last (omega (arith, long, less))) ∙ take-append-le 32 (drop (32 * n) text) last (omega (arith, long, less, length-drop (32 * n) text)); whole = is.whole }

at_last : (text last : List ℕ) (w : ℕ) (h : List ℕ) → length text ≡ 32 * w → length last ≡ 32 → IsHashAt (text ++ last) w h → h ≡ last
at_last text last w h long one is =
    is.bytes ∙ ap (take 32) (drop_at text last (32 * w) long) ∙ take_all 32 last (omega (arith, one))

-- a level with a partial tile
pub below-joined : (H : Digest) (tiles : Tiles) (size level : ℕ) (text : List ℕ) (below : Option (List ℕ)) (hash : List ℕ) → IsEdgeLevel tiles size level text → 0 < wide_of size level
    → IsRestHash H tiles size level below → Joined H text (wide_of size level) below hash → IsRestHash H tiles size (level + 1) (Some hash)
below-joined H tiles size level text None hash at wide none (strings, part) =
    let u : ℕ = 256 ^ level in
    let one : 1 * u ≤ wide_of size level * u = scaled_le 1 (wide_of size level) u (omega (arith, wide)) in
    let rest : wide_of size level * u ≡ size % 256 ^ (level + 1) = omega (arith, above-rest size level, none) in
    let fold = edge_part H tiles size level text at text (λ n h less is. is) 0 (wide_of size level) hash strings part (omega arith) in (
      omega (arith, rest, one, positive_256 level),
      strings,
      subst (λ (x : ℕ). IsFold H (IsEdgeHash tiles size) x (size % 256 ^ (level + 1)) hash strings) (sym (above-start size level))
          (subst (λ (x : ℕ). IsFold H (IsEdgeHash tiles size) ((base size level + 0) * u) x hash strings) rest fold),
    )
below-joined H tiles size level text (Some last) hash at wide (some, below_strings, below) (one_hash, (strings, part)) =
    let u : ℕ = 256 ^ level in
    let count : wide_of size level + 1 - 1 ≡ wide_of size level = omega arith in
    let rest : (wide_of size level + 1 - 1) * u + size % u ≡ size % 256 ^ (level + 1) = ap (λ (x : ℕ). x * u + size % u) count ∙ sym (above-rest size level) in
    let fold = edge_last H tiles size level text at (text ++ last) last (λ n h less is. at_first text last n (wide_of size level) h at.long less is) (λ h is. at_last text last (wide_of size level) h at.long one_hash is)
    some (below_strings, below) 0 (wide_of size level + 1) hash strings part (omega arith) (omega arith) in (
      omega (arith, above-rest size level, some),
      fold.0,
      subst (λ (x : ℕ). IsFold H (IsEdgeHash tiles size) x (size % 256 ^ (level + 1)) hash fold.0) (sym (above-start size level))
          (subst (λ (x : ℕ). IsFold H (IsEdgeHash tiles size) ((base size level + 0) * u) x hash fold.0) rest fold.1),
    )

-- what the code has of a level: its tile and text
same_level_text : (tiles : Tiles) (size level : ℕ) → HasEdge tiles size → level < 8 → (tile : Tile) (text : List ℕ) → tile ≡ partial_tile size level → 0 < tile.width → tiles tile ≡ Some text → IsEdgeLevel tiles size level text
same_level_text tiles size level edge low tile text is wide fetched =
    let here = edge level low (omega (arith, wide, ap (λ (t : Tile). t.width) is)) in
    let same : here.0 ≡ text = Some-injective here.0 text (sym here.1.fetched ∙ ap tiles (sym is) ∙ fetched) in
    subst (IsEdgeLevel tiles size level) same here.1

pub level_none : (H : Digest) (tiles : Tiles) (size level : ℕ) (below : Option (List ℕ)) (tile : Tile) → tile ≡ partial_tile size level → tile.width ≡ 0
    → IsRestHash H tiles size level below → IsRestHash H tiles size (level + 1) below
level_none H tiles size level below tile is none folds = below-none H tiles size level below (sym (ap (λ (t : Tile). t.width) is) ∙ none) folds

pub level_joined : (H : Digest) (tiles : Tiles) (size level : ℕ) → HasEdge tiles size → level < 8 → (tile : Tile) (text : List ℕ) (below : Option (List ℕ)) (hash : List ℕ) → tile ≡ partial_tile size level → 0 < tile.width → tiles tile ≡ Some text
    → IsRestHash H tiles size level below → Joined H text tile.width below hash → IsRestHash H tiles size (level + 1) (Some hash)
level_joined H tiles size level edge low tile text below hash is wide fetched folds joined =
    let width : tile.width ≡ wide_of size level = ap (λ (t : Tile). t.width) is in
    below-joined H tiles size level text below hash (same_level_text tiles size level edge low tile text is wide fetched) (omega (arith, width, wide)) folds
    (subst (λ (w : ℕ). Joined H text w below hash) width joined)

-- the partial tile by shifts
pub partial_tile-shifted : (size level : ℕ) → (tile : Tile) → tile ≡ record { level = level; index = size / 2 ^ (8 * level) / 256; width = size / 2 ^ (8 * level) % 256 } → tile ≡ partial_tile size level
partial_tile-shifted size level tile is =
    let made : ℕ → Tile = λ u. record { level = level; index = size / u / 256; width = size / u % 256 } in
    is ∙ ap made (tile_height level)
