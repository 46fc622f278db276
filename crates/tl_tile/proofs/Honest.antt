-- What honest tiles fold to, and that tiles fold to one hash.
use Rattle.std.proofs.Common.{◌≡◌, ℕ, zero, suc, ◌+◌, ◌*◌, ◌/◌, ◌%◌, ◌^◌, ◌<◌, ◌≤◌, inl, inr, List, ◌++◌, length, take, drop, Some, refl, sym, ap, subst, ◌∙◌, arith}
use Rattle.std.specs.List.{flat_map, range_with_len}
use Rattle.std.proofs.lemmas.Nat.{pow-add}
use Rattle.std.proofs.lemmas.Bool.{cases_lt}
use Rattle.std.proofs.lemmas.List.{take_at, drop_at, drop-drop, length-drop}
use Rattle.tl_hash.specs.Bytes.{Digest}
use Rattle.tl_hash.specs.Tree.{tree_hash}
use Rattle.tl_hash.proofs.TreeLemmas.{length-tree_hash}
use Rattle.tl_tile.proofs.Segments.{HasHashLength, segment, segment-all, power_of_256}
use Rattle.tl_tile.specs.declared.resource.Tile.{Tile}
use Rattle.tl_tile.specs.TileText.{level_count, entries_under, tile_text, full_tile, partial_tile, tile_with}
use Rattle.tl_tile.specs.Folds.{Tiles, IsHashAt, IsEdgeHash, IsOwnHash, IsTileHash}
use Rattle.tl_tile.specs.TileLaws.{AreHonest}
use Rattle.tl_tile.specs.Inner.TileLaws.{HonestTilesFoldToRoot, HonestTilesFoldToAbove, FoldedHashesAreOne}
use Rattle.tl_tile.proofs.Walks.{fold_of_right, IsFold-unique}
use Rattle.tl_tile.proofs.Edges.{IsHashAt-one, edge_target, under_within}
use Rattle.tl_tile.proofs.Checked.{tile_with-full, tile_with-partial, under_tile, under_place}

-- a piece of pieces of 32 bytes
piece_of : (f : ℕ → List ℕ) → ((i : ℕ) → length (f i) ≡ 32) → (a m n : ℕ) → n < m → take 32 (drop (32 * n) (flat_map f (range_with_len a m))) ≡ f (a + n)
piece_of f wide a zero n less = absurd (omega (arith, less))
piece_of f wide a (suc m) zero less =
    let same : a ≡ a + 0 = omega arith in
    take_at (f a) (flat_map f (range_with_len (a + 1) m)) 32 (wide a) ∙ ap f same
piece_of f wide a (suc m) (suc n) less =
    let rest : List ℕ = flat_map f (range_with_len (a + 1) m) in
    let sum : 32 * suc n ≡ 32 + 32 * n = omega arith in
    let place : a + 1 + n ≡ a + suc n = omega arith in
    ap (λ (x : ℕ). take 32 (drop x (f a ++ rest))) sum
    ∙ ap (take 32) (sym (drop-drop (32 * n) 32 (f a ++ rest)))
    ∙ ap (λ (list : List ℕ). take 32 (drop (32 * n) list)) (drop_at (f a) rest 32 (wide a))
    ∙ piece_of f wide (a + 1) m n (omega (arith, less))
    ∙ ap f place

-- the hash at a number of a tile's text
pub hash_of_text : (H : Digest) → ((message : List ℕ) → HasHashLength (H message)) → (t : Tile) (entries : List (List ℕ)) (n : ℕ) (hash : List ℕ) → n < t.width
    → IsHashAt (tile_text H t entries) n hash → hash ≡ tree_hash H (entries_under t.level (t.index * 256 + n) entries)
hash_of_text H wide t entries n hash less is =
    let f : ℕ → List ℕ = λ i. tree_hash H (entries_under t.level (t.index * 256 + i) entries) in
    let start : 0 + n ≡ n = omega arith in
    is.bytes
    ∙ piece_of f (λ i. length-tree_hash H wide (entries_under t.level (t.index * 256 + i) entries)) 0 t.width n less
    ∙ ap f start

honest_hash : (H : Digest) → ((message : List ℕ) → HasHashLength (H message)) → (tiles : Tiles) (entries : List (List ℕ)) → AreHonest H tiles entries
    → (t : Tile) (text : List ℕ) (n : ℕ) (hash : List ℕ) → tiles t ≡ Some text → n < t.width → IsHashAt text n hash
    → hash ≡ tree_hash H (entries_under t.level (t.index * 256 + n) entries)
honest_hash H wide tiles entries honest t text n hash fetched less is =
    hash_of_text H wide t entries n hash less (subst (λ (bytes : List ℕ). IsHashAt bytes n hash) (honest t text fetched) is)

-- a hash of an honest tile, by its place
pub honest_place : (H : Digest) → ((message : List ℕ) → HasHashLength (H message)) → (tiles : Tiles) (entries : List (List ℕ)) → AreHonest H tiles entries
    → (level place : ℕ) (text hash : List ℕ) → place < level_count (length entries) level
    → tiles (tile_with (length entries) level place) ≡ Some text → IsHashAt text (place % 256) hash
    → hash ≡ tree_hash H (entries_under level place entries)
honest_place H wide tiles entries honest level place text hash less fetched is =
    let size : ℕ = length entries in
    elim (cases_lt (place / 256) (level_count size level / 256)) as (λ _. hash ≡ tree_hash H (entries_under level place entries)) [
      | inl below ↦
          let place_is : place / 256 * 256 + place % 256 ≡ place = omega arith in
          honest_hash H wide tiles entries honest (full_tile level (place / 256)) text (place % 256) hash (ap tiles (sym (tile_with-full size level place below)) ∙ fetched) (omega arith) is
          ∙ ap (λ (x : ℕ). tree_hash H (entries_under level x entries)) place_is
      | inr more ↦
          let row : place / 256 ≡ level_count size level / 256 = omega (arith, more, less) in
          let place_is : level_count size level / 256 * 256 + place % 256 ≡ place = omega (arith, row) in
          honest_hash H wide tiles entries honest (partial_tile size level) text (place % 256) hash (ap tiles (sym (tile_with-partial size level place more)) ∙ fetched) (omega (arith, row, less)) is
          ∙ ap (λ (x : ℕ). tree_hash H (entries_under level x entries)) place_is
    ]

pub honest_tiles_fold_to_root : HonestTilesFoldToRoot
honest_tiles_fold_to_root H wide tiles entries honest root strings folds =
    let size : ℕ = length entries in
    let all : segment 1 0 size entries ≡ entries = segment-all 1 size entries (omega arith) in
    fold_of_right H (IsEdgeHash tiles size) 1 (0, refl) entries 0 size root strings folds (omega arith)
    (λ s c h low high edge.
    let more : level_count size edge.level / 256 ≤ edge.place / 256 = omega (arith, edge.on_edge.0) in
    let count : c * 1 ≡ 256 ^ edge.level = omega (arith, edge.counts) in
    let start : s * 1 ≡ edge.place * 256 ^ edge.level = omega (arith, edge.starts) in
    honest_place H wide tiles entries honest edge.level edge.place edge.text h edge.on_edge.1
    (ap tiles (tile_with-partial size edge.level edge.place more) ∙ edge.fetched) edge.there
    ∙ (λ i. tree_hash H (take (sym count i) (drop (sym start i) entries))))
    ∙ ap (tree_hash H) all

pub text_folds_to_above : (H : Digest) → ((message : List ℕ) → HasHashLength (H message)) → (tiles : Tiles) (entries : List (List ℕ)) → AreHonest H tiles entries
    → (level index : ℕ) (text hash : List ℕ) (strings : List (List ℕ)) → index < level_count (length entries) (level + 1)
    → text ≡ tile_text H (full_tile level index) entries → IsTileHash H text hash strings
    → (above own : List ℕ) → tiles (tile_with (length entries) (level + 1) index) ≡ Some above → IsHashAt above (index % 256) own
    → hash ≡ own
text_folds_to_above H wide tiles entries honest level index text hash strings less text_is folds above own fetched_above is =
    let size : ℕ = length entries in
    let u : ℕ = 256 ^ level in
    let rest : List (List ℕ) = drop (index * 256 * u) entries in
    let power : 256 ^ (level + 1) ≡ 256 * u = pow-add 256 level 1 ∙ omega arith in
    let end : (index + 1) * 256 ^ (level + 1) ≡ (index + 1) * 256 * u = ap (λ (x : ℕ). (index + 1) * x) power ∙ omega arith in
    let within : (index + 1) * 256 ^ (level + 1) ≤ size = under_within size (level + 1) index less in
    let fits : (0 + 256) * u ≤ length rest = omega (arith, within, end, length-drop (index * 256 * u) entries) in
    let right : hash ≡ tree_hash H (segment u 0 256 rest) =
    fold_of_right H (IsOwnHash text) u (power_of_256 level) rest 0 256 hash strings folds fits
    (λ s c h low high is_own.
    let small : s < 256 = omega (arith, high, is_own.0) in
    hash_of_text H wide (full_tile level index) entries s h small (subst (λ (bytes : List ℕ). IsHashAt bytes s h) text_is is_own.1)
    ∙ ap (tree_hash H) (sym (under_place level index s entries))
    ∙ ap (λ (x : ℕ). tree_hash H (segment u s x rest)) (sym is_own.0)) in
    right
    ∙ ap (tree_hash H) (sym (under_tile level index entries))
    ∙ sym (honest_place H wide tiles entries honest (level + 1) index above own less fetched_above is)

pub honest_tiles_fold_to_above : HonestTilesFoldToAbove
honest_tiles_fold_to_above H wide tiles entries honest level index text hash strings less fetched folds =
    text_folds_to_above H wide tiles entries honest level index text hash strings less (honest (full_tile level index) text fetched) folds

-- one hash of a partial tile over some entries
edge_one : (tiles : Tiles) (size s c : ℕ) (h g : List ℕ) → IsEdgeHash tiles size s c h → IsEdgeHash tiles size s c g → h ≡ g
edge_one tiles size s c h g one two =
    let target = edge_target tiles size one.level one.place one.text h one.on_edge one.fetched one.there in
    sym (target.only g (subst (λ (x : ℕ). IsEdgeHash tiles size (one.place * 256 ^ one.level) x g) one.counts (subst (λ (x : ℕ). IsEdgeHash tiles size x c g) one.starts two)))

pub folded_hashes_are_one : FoldedHashesAreOne
folded_hashes_are_one H tiles size text hash other strings others = (
  λ folds folds_too. IsFold-unique H (IsEdgeHash tiles size) (edge_one tiles size) 0 size hash strings folds other others folds_too,
  λ folds folds_too. IsFold-unique H (IsOwnHash text) (λ s c h g one two. IsHashAt-one text s h g one.1 two.1) 0 256 hash strings folds other others folds_too,
)
