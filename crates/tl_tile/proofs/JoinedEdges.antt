-- The roots of full tiles that a right edge keeps, added to another.
use Rattle.std.proofs.Common.{◌≡◌, ℕ, ◌+◌, ◌*◌, ◌/◌, ◌%◌, ◌^◌, ◌<◌, ◌≤◌, List, [], ◌++◌, length, map, take, drop, take-add, get_or, append_assoc, append-nil, sym, ap, subst, ◌∙◌, arith}
use Rattle.std.specs.List.{range_with_len}
use Rattle.std.proofs.lemmas.List.{length-drop, length-take-le, take_all}
use Rattle.std.proofs.lemmas.List.FromFn.{get_or-map-range_with_len}
use Rattle.tl_hash.specs.Bytes.{Bytes, Digest}
use Rattle.tl_hash.specs.Tree.{tree_hash}
use Rattle.tl_tile.specs.TileText.{level_count}
use Rattle.tl_tile.specs.RightEdge.{EdgeContents, IsEdgeOf, hashes_below, count_below}
use Rattle.tl_tile.specs.Inner.PartialHashes.{hash_at, partial_hashes}
use Rattle.tl_tile.proofs.Levels.{wide_of, length-partial}

-- a level without places has no partial tile
no_places : (H : Digest) (entries : List Bytes) (level : ℕ) → wide_of (length entries) level ≡ 0 → partial_hashes H entries level ≡ []
no_places H entries level none = ap (λ n. map (hash_at H entries level) (range_with_len (level_count (length entries) level / 256 * 256) n)) none

-- up to 255 full tiles of level 0, and no others: their roots are all that is kept
kept_roots : (H : Digest) (entries : List Bytes) → length entries % 256 ≡ 0 → length entries < 65536 → hashes_below H entries 8 ≡ partial_hashes H entries 1
unfolding hashes_below
kept_roots H entries whole small =
    let none = no_places H entries in
    let a = none 7 (omega (arith, small)) in
    let b = none 6 (omega (arith, small)) in
    let c = none 5 (omega (arith, small)) in
    let d = none 4 (omega (arith, small)) in
    let e = none 3 (omega (arith, small)) in
    let f = none 2 (omega (arith, small)) in
    let g = none 0 (omega (arith, whole)) in
    (λ i. a i ++ (b i ++ (c i ++ (d i ++ (e i ++ (f i ++ (partial_hashes H entries 1 ++ (g i ++ []))))))))
    ∙ append-nil (partial_hashes H entries 1)

tiles_count : (size : ℕ) → size % 256 ≡ 0 → size < 65536 → 256 * count_below size 8 ≡ size
unfolding count_below
tiles_count size whole small = omega (arith, whole, small)

-- so there are as many as full tiles
pub next_roots : (next view : EdgeContents) (roots : List Bytes) → roots ≡ view.kept → view ≡ next → length view.kept ≡ count_below view.size 8 → next.size % 256 ≡ 0 → next.size < 65536
    → (roots ≡ next.kept) × (next.size ≡ 256 * length next.kept)
next_roots next view roots kept same counted whole small =
    let sizes : view.size ≡ next.size = ap (λ e. e.size) same in
    let lists : view.kept ≡ next.kept = ap (λ e. e.kept) same in (
      kept ∙ lists,
      omega (arith, ap length lists, counted, sizes, tiles_count view.size (omega (arith, whole, sizes)) (omega (arith, small, sizes))),
    )

-- each of them
root_at : (H : Digest) (entries kept : List Bytes) (i : ℕ) (root : Bytes) → length entries % 256 ≡ 0 → length entries < 65536 → kept ≡ hashes_below H entries 8
    → i < length kept → root ≡ get_or kept i root → root ≡ tree_hash H (take 256 (drop (256 * i) entries))
root_at H entries kept i root whole small kept_is less root_is =
    let roots : kept ≡ partial_hashes H entries 1 = kept_is ∙ kept_roots H entries whole small in
    let within : i < wide_of (length entries) 1 = omega (arith, less, ap length roots, length-partial H entries 1) in
    let first : level_count (length entries) 1 / 256 * 256 + i ≡ i = omega (arith, small) in
    let turned : i * 256 ^ 1 ≡ 256 * i = omega arith in
    root_is ∙ ap (λ (xs : List Bytes). get_or xs i root) roots
    ∙ get_or-map-range_with_len (hash_at H entries 1) (level_count (length entries) 1 / 256 * 256) (wide_of (length entries) 1) i i root within first
    ∙ ap (λ (n : ℕ). tree_hash H (take 256 (drop n entries))) turned

-- one tile more
pub tile-joined : (H : Digest) (old next mid new : EdgeContents) (i : ℕ) (root : Bytes) → next.size % 256 ≡ 0 → next.size < 65536 → next.size ≡ 256 * length next.kept
    → i < length next.kept → root ≡ get_or next.kept i root
    → ((entries added : List Bytes) → length added ≡ 256 → root ≡ tree_hash H added → IsEdgeOf mid H entries → IsEdgeOf new H (entries ++ added))
    → ((entries added : List Bytes) → IsEdgeOf old H entries → IsEdgeOf next H added → IsEdgeOf mid H (entries ++ take (256 * i) added))
    → (entries added : List Bytes) → IsEdgeOf old H entries → IsEdgeOf next H added → IsEdgeOf new H (entries ++ take (256 * (i + 1)) added)
tile-joined H old next mid new i root whole small size less root_is push so_far entries added is next_is =
    let front : List Bytes = entries ++ take (256 * i) added in
    let tile : List Bytes = take 256 (drop (256 * i) added) in
    let long : length tile ≡ 256 = length-take-le 256 (drop (256 * i) added) (omega (arith, length-drop (256 * i) added, next_is.0, size, less)) in
    let hash = root_at H added next.kept i root (omega (arith, next_is.0, whole)) (omega (arith, next_is.0, small)) next_is.2 less root_is in
    let sum : 256 * i + 256 ≡ 256 * (i + 1) = omega arith in
    subst (IsEdgeOf new H)
    (append_assoc entries (take (256 * i) added) tile ∙ ap (λ (xs : List Bytes). entries ++ xs) (sym (take-add (256 * i) 256 added)) ∙ ap (λ (n : ℕ). entries ++ take n added) sum)
    (push front tile long hash (so_far entries added is next_is))

-- all of them
pub all-joined : (H : Digest) (next new : EdgeContents) (entries added : List Bytes) (i : ℕ) → next.size ≡ 256 * length next.kept → length next.kept ≤ i → IsEdgeOf next H added
    → IsEdgeOf new H (entries ++ take (256 * i) added) → IsEdgeOf new H (entries ++ added)
all-joined H next new entries added i size all next_is joined =
    subst (λ (xs : List Bytes). IsEdgeOf new H (entries ++ xs)) (take_all (256 * i) added (omega (arith, next_is.0, size, all))) joined
