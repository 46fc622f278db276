-- Honest tiles fold to the stored hashes.
use Rattle.std.proofs.Common.{◌≡◌, ℕ, ◌+◌, ◌*◌, ◌/◌, ◌%◌, ◌^◌, ◌<◌, ◌≤◌, List, length, take, drop, Some, sym, ap, subst, ◌∙◌, arith}
use Rattle.std.proofs.lemmas.Nat.{pow_pos, le-div, div-mul-add, mod-mul-add}
use Rattle.std.proofs.lemmas.List.{length-drop}
use Rattle.tl_hash.specs.Bytes.{Digest}
use Rattle.tl_hash.specs.Tree.{tree_hash}
use Rattle.tl_store.proofs.StoredLemmas.{index_is_place}
use Rattle.tl_tile.specs.TileText.{level_count, tile_with}
use Rattle.tl_tile.specs.Folds.{Tiles, IsHashAt, IsOwnHash, IsPartHash}
use Rattle.tl_tile.specs.TileLaws.{AreHonest}
use Rattle.tl_tile.specs.Inner.TileLaws.{HonestTilesHaveStoredHashes}
use Rattle.tl_tile.proofs.Segments.{segment, power_of_256, segment-of_rest, HasHashLength}
use Rattle.tl_tile.proofs.Walks.{fold_of_right}
use Rattle.tl_tile.proofs.Edges.{positive_256}
use Rattle.tl_tile.proofs.Checked.{tile_with-same, under_place, in_one_tile, power_in_256, height_of_8}
use Rattle.tl_tile.proofs.Honest.{honest_place}

honest_part : (H : Digest) → ((message : List ℕ) → HasHashLength (H message)) → (tiles : Tiles) (entries : List (List ℕ)) → AreHonest H tiles entries
    → (level place count : ℕ) (text hash : List ℕ) (strings : List (List ℕ)) → place % 256 + count ≤ 256 → (place + count) * 256 ^ level ≤ length entries
    → tiles (tile_with (length entries) level place) ≡ Some text → IsPartHash H text (place % 256) count hash strings
    → hash ≡ tree_hash H (segment (256 ^ level) place count entries)
honest_part H wide tiles entries honest level place count text hash strings in_tile in_size fetched folds =
    let size : ℕ = length entries in
    let u : ℕ = 256 ^ level in
    let index : ℕ = place / 256 in
    let start : ℕ = place % 256 in
    let rest : List (List ℕ) = drop (index * 256 * u) entries in
    let place_is : index * 256 + start ≡ place = omega arith in
    let places : place + count ≤ level_count size level = le-div (place + count) size u (positive_256 level) in_size in
    let product : (place + count) * u ≡ index * 256 * u + (start + count) * u = ap (λ (x : ℕ). (x + count) * u) (sym place_is) ∙ omega arith in
    let fits : (start + count) * u ≤ length rest = omega (arith, length-drop (index * 256 * u) entries, in_size, product) in
    let right : hash ≡ tree_hash H (segment u start count rest) =
    fold_of_right H (IsOwnHash text) u (power_of_256 level) rest start count hash strings folds fits
    (λ s c h low high is.
    let small : s < 256 = omega (arith, high, is.0, in_tile) in
    let here : ℕ = index * 256 + s in
    let row : here / 256 ≡ index = div-mul-add index 256 s small in
    let column : here % 256 ≡ s = mod-mul-add index 256 s small in
    let same_tile : tiles (tile_with size level here) ≡ Some text = ap tiles (tile_with-same size level here place row) ∙ fetched in
    honest_place H wide tiles entries honest level here text h (omega (arith, places, place_is, high, is.0)) same_tile (subst (λ (x : ℕ). IsHashAt text x h) (sym column) is.1)
    ∙ ap (tree_hash H) (sym (under_place level index s entries))
    ∙ ap (λ (x : ℕ). tree_hash H (segment u s x rest)) (sym is.0)) in
    right ∙ ap (tree_hash H) (segment-of_rest u start count (index * 256) entries ∙ ap (λ (x : ℕ). segment u x count entries) place_is)

pub honest_tiles_have_stored_hashes : HonestTilesHaveStoredHashes
honest_tiles_have_stored_hashes H wide tiles entries honest level place hash within is_hash =
    let l : ℕ = level / 8 in
    let d : ℕ = 2 ^ (level % 8) in
    let u : ℕ = 256 ^ l in
    let p : ℕ = place * d in
    let height : 2 ^ level ≡ d * u = height_of_8 level in
    let e = power_in_256 (level % 8) (omega arith) in
    let end : (place + 1) * 2 ^ level ≡ (p + d) * u = ap (λ (x : ℕ). (place + 1) * x) height ∙ omega arith in
    let start : p * u ≡ place * 2 ^ level = omega arith ∙ ap (λ (x : ℕ). place * x) (sym height) in
    let stored = index_is_place H entries level place within in
    honest_part H wide tiles entries honest l p d is_hash.text hash is_hash.strings (in_one_tile place d e.0 (pow_pos (level % 8)) e.1) (omega (arith, within, end)) is_hash.fetched is_hash.folds
    ∙ (λ i. tree_hash H (take (sym height i) (drop (start i) entries))) ∙ sym stored.1
