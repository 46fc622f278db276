-- What the code has done of one full place at each level.
use Rattle.std.proofs.Common.{◌≡◌, ℕ, ◌+◌, ◌-◌, ◌*◌, ◌/◌, ◌%◌, ◌^◌, ◌<◌, ◌≤◌, List, [], ◌∷◌, ◌++◌, length, map, take, drop, replicate, refl, sym, ap, ◌∙◌, arith}
use Rattle.std.specs.List.{flat_map, range_with_len}
use Rattle.std.proofs.lemmas.List.{length-append, drop_at, take_all, length-take-le, length-replicate, map-append}
use Rattle.std.proofs.lemmas.List.FromFn.{map-range_with_len_more}
use Rattle.tl_hash.specs.Bytes.{Digest}
use Rattle.tl_hash.specs.Tree.{tree_hash, leaf_input}
use Rattle.tl_hash.proofs.TreeLemmas.{tree_hash-one}
use Rattle.tl_tile.specs.declared.resource.Tile.{Tile}
use Rattle.tl_tile.specs.TileText.{level_count, full_tile, tile_text}
use Rattle.tl_tile.specs.Fetched.{tiles_in}
use Rattle.tl_tile.specs.RightEdge.{shown, filled_tiles, shown_filled, hashes_below, count_below}
use Rattle.tl_tile.specs.Inner.PartialHashes.{hash_at, partial_hashes}
use Rattle.tl_tile.specs.Inner.PlaceAfter.{IsPlaceAfter}
use Rattle.tl_tile.proofs.Levels.{wide_of, level_parts, Folds}
use Rattle.tl_tile.proofs.Below.{count_below-more, count_below-within, length-below, below_slice, shifted_count}
use Rattle.tl_tile.proofs.Fills.{IsFilled, AreFollowed, counts_after, count_is, next_filled, before_wide, low_level, below_none, fill_kept, fold_step, text_step, filled_levels_are}

-- the full tiles of the lower levels that end with the last of this many entries
abbrev pub tiles_below : ℕ → ℕ → List Tile
tiles_below size level = map (λ l. full_tile l (size / 256 ^ (l + 1) - 1)) (range_with_len 0 level)

-- what is so of the kept hashes at each turn of the loop: the hash is that of the last full place of the level
pub record AreFilling (H : Digest) (was lowest : ℕ) (root : List ℕ) (kept : List (List ℕ)) (level count left : ℕ) (hash : List ℕ) : Type 0 where
  pub whole : was % 256 ^ lowest ≡ 0
  pub up : lowest ≤ level
  pub filled : IsFilled (was + 256 ^ lowest) level count
  pub place : left + count_below was level ≡ length kept
  pub told : (entries added : List (List ℕ)) → IsPlaceAfter H was lowest kept root entries added → hash ≡ hash_at H (entries ++ added) level (count - 1)

-- what is so of the tiles: they are those of the levels below
abbrev pub AreTilesBelow : Digest → ℕ → ℕ → List ℕ → List (List ℕ) → ℕ → List (Tile × List ℕ) → Type 0
AreTilesBelow H was lowest root kept level tiles = lowest ≡ 0 → (entries added : List (List ℕ)) → IsPlaceAfter H was lowest kept root entries added → tiles ≡ map (shown H (entries ++ added)) (tiles_below (was + 256 ^ lowest) level)

-- what is so of the tiles' names: they are those of the levels below
abbrev pub AreNamesBelow : ℕ → ℕ → ℕ → List (Tile × List ℕ) → Type 0
AreNamesBelow was lowest level tiles = lowest ≡ 0 → tiles_in tiles ≡ tiles_below (was + 256 ^ lowest) level

followed : (H : Digest) (was lowest : ℕ) (root : List ℕ) (kept entries added : List (List ℕ)) → was % 256 ^ lowest ≡ 0 → IsPlaceAfter H was lowest kept root entries added → AreFollowed entries added lowest (was + 256 ^ lowest)
followed H was lowest root kept entries added whole after = record {
  sized = omega (arith, length-append entries added, after.sized, after.full);
  counts = λ level up. ap (λ (x : ℕ). level_count x level) after.sized ∙ counts_after was lowest (was + 256 ^ lowest) whole refl level up;
}

-- an entry is a full place of level 0
pub entry_after : (H : Digest) (size : ℕ) (kept : List (List ℕ)) (leaf : List ℕ) (entries : List (List ℕ)) (entry : List ℕ) → length entries ≡ size → kept ≡ hashes_below H entries 8 → leaf ≡ H (leaf_input entry)
    → IsPlaceAfter H size 0 kept leaf entries (entry ∷ [])
entry_after H size kept leaf entries entry sized kept_are leaf_is = record { sized = sized; full = refl; kept_are = kept_are; root_is = leaf_is ∙ sym (tree_hash-one H entry) }

-- no hashes are kept for levels below one whose places are all full
none_below : (was lowest : ℕ) → was % 256 ^ lowest ≡ 0 → count_below was lowest ≡ 0
none_below was lowest whole =
    let H : List ℕ → List ℕ = λ bytes. bytes in
    let entries : List (List ℕ) = replicate was [] in
    let long : length entries ≡ was = length-replicate {A = List ℕ} was [] in
    sym (ap (λ (x : ℕ). count_below x lowest) long) ∙ sym (length-below H entries lowest)
    ∙ ap length (below_none H entries lowest lowest (omega arith) (ap (λ (x : ℕ). x % 256 ^ lowest) long ∙ whole))

pub filling-start : (H : Digest) (was lowest : ℕ) (root : List ℕ) (kept : List (List ℕ)) (count left : ℕ) → was % 256 ^ lowest ≡ 0 → count ≡ was / 2 ^ (8 * lowest) + 1 → left ≡ length kept
    → AreFilling H was lowest root kept lowest count left root
filling-start H was lowest root kept count left whole count_is left_is =
    let u : ℕ = 256 ^ lowest in
    let q : ℕ = level_count was lowest in
    let places : count ≡ q + 1 = omega (arith, count_is, shifted_count was lowest) in
    let product : count * u ≡ q * u + u = ap (λ (x : ℕ). x * u) places ∙ omega arith in
    let before : (count - 1) * u ≡ q * u = (let e : count - 1 ≡ q = omega (arith, places) in ap (λ (x : ℕ). x * u) e) in
    record {
      whole = whole;
      up = omega arith;
      filled = record { scaled = omega (arith, product, level_parts was lowest, whole); some = omega (arith, places) };
      place = omega (arith, left_is, none_below was lowest whole);
      told = λ entries added after.
          let start : length entries ≡ (count - 1) * u = omega (arith, after.sized, before, level_parts was lowest, whole) in
          after.root_is ∙ sym (ap (tree_hash H) (ap (take u) (drop_at entries added ((count - 1) * u) start) ∙ take_all u added (omega (arith, after.full))));
    }

pub tiles-start : (H : Digest) (was lowest : ℕ) (root : List ℕ) (kept : List (List ℕ)) (tiles : List (Tile × List ℕ)) → tiles ≡ [] → AreTilesBelow H was lowest root kept lowest tiles
tiles-start H was lowest root kept tiles none is_zero entries added after = none ∙ sym (ap (λ (level : ℕ). map (shown H (entries ++ added)) (tiles_below (was + 256 ^ lowest) level)) is_zero)

pub names-start : (was lowest : ℕ) (tiles : List (Tile × List ℕ)) → tiles ≡ [] → AreNamesBelow was lowest lowest tiles
names-start was lowest tiles none is_zero = ap tiles_in none ∙ sym (ap (tiles_below (was + 256 ^ lowest)) is_zero)

-- the level was one short of a full tile
wide_was : (H : Digest) (was lowest : ℕ) (root : List ℕ) (kept : List (List ℕ)) (level count left : ℕ) (hash : List ℕ) → AreFilling H was lowest root kept level count left hash → count % 256 ≡ 0 → wide_of was level ≡ 255
wide_was H was lowest root kept level count left hash at whole =
    ap (λ (x : ℕ). x % 256) (counts_after was lowest (was + 256 ^ lowest) at.whole refl level at.up) ∙ before_wide (was + 256 ^ lowest) level count at.filled whole

-- there are hashes enough for a full tile
pub filling-room : (H : Digest) (was lowest : ℕ) (root : List ℕ) (kept : List (List ℕ)) (level count left : ℕ) (hash : List ℕ) → was + 256 ^ lowest < 2 ^ 32 → length kept ≡ count_below was 8
    → AreFilling H was lowest root kept level count left hash → count % 256 ≡ 0 → 255 ≤ left
filling-room H was lowest root kept level count left hash small counted at whole =
    let low = low_level (was + 256 ^ lowest) level count small at.filled in
    omega (arith, count_below-within was level 8 (omega (arith, low)), wide_was H was lowest root kept level count left hash at whole, at.place, counted)

tiles_more : (H : Digest) (after : List (List ℕ)) (size level index : ℕ) (old new : List (Tile × List ℕ)) (bytes : List ℕ) → new ≡ old ++ (full_tile level index, bytes) ∷ []
    → old ≡ map (shown H after) (tiles_below size level) → index ≡ size / 256 ^ (level + 1) - 1 → bytes ≡ tile_text H (full_tile level index) after
    → new ≡ map (shown H after) (tiles_below size (level + 1))
tiles_more H after size level index old new bytes pushed so_far index_is text =
    let f : ℕ → Tile = λ l. full_tile l (size / 256 ^ (l + 1) - 1) in
    let own : (full_tile level index, bytes) ≡ shown H after (f level) =
    (λ i. (full_tile level index, text i)) ∙ ap (λ (x : ℕ). shown H after (full_tile level x)) index_is in
    let more : tiles_below size (level + 1) ≡ tiles_below size level ++ f level ∷ [] = map-range_with_len_more f 0 level level (omega arith) in
    pushed ∙ (λ i. so_far i ++ own i ∷ [])
    ∙ sym (ap (map (shown H after)) more ∙ map-append (shown H after) (tiles_below size level) (f level ∷ []))

-- the kept hashes that fold to the next level's hash
slice_of : (H : Digest) (was lowest : ℕ) (root : List ℕ) (kept : List (List ℕ)) (level count left start width : ℕ) (hash : List ℕ) → was + 256 ^ lowest < 2 ^ 32 → length kept ≡ count_below was 8
    → AreFilling H was lowest root kept level count left hash → count % 256 ≡ 0 → start ≡ left - 255 → width ≡ 255
    → (entries added : List (List ℕ)) → IsPlaceAfter H was lowest kept root entries added → take width (drop start kept) ≡ partial_hashes H entries level
slice_of H was lowest root kept level count left start width hash small counted at whole start_is width_is entries added after =
    let low = low_level (was + 256 ^ lowest) level count small at.filled in
    let room = filling-room H was lowest root kept level count left hash small counted at whole in
    let wide = wide_was H was lowest root kept level count left hash at whole in
    let own_width : width ≡ wide_of (length entries) level = omega (arith, width_is, wide, ap (λ (x : ℕ). wide_of x level) after.sized) in
    let stands : start + width + count_below (length entries) level ≡ length kept = omega (arith, start_is, width_is, room, at.place, ap (λ (x : ℕ). count_below x level) after.sized) in
    below_slice H entries level start width kept (omega (arith, low)) after.kept_are own_width stands

-- one level more
pub filling-more : (H : Digest) (was lowest : ℕ) (root : List ℕ) (kept : List (List ℕ)) (level count left start width : ℕ) (hash result : List ℕ)
    → was + 256 ^ lowest < 2 ^ 32 → length kept ≡ count_below was 8 → AreFilling H was lowest root kept level count left hash → count % 256 ≡ 0
    → start ≡ left - 255 → width ≡ 255 → Folds H (take width (drop start kept)) hash result
    → AreFilling H was lowest root kept (level + 1) (count / 256) (left - 255) result
filling-more H was lowest root kept level count left start width hash result small counted at whole start_is width_is folds =
    let size : ℕ = was + 256 ^ lowest in
    let room = filling-room H was lowest root kept level count left hash small counted at whole in
    let wide = wide_was H was lowest root kept level count left hash at whole in
    record {
      whole = at.whole;
      up = omega (arith, at.up);
      filled = next_filled size level count at.filled whole;
      place = omega (arith, at.place, room, wide, count_below-more was level);
      told = λ entries added after.
          let slice = slice_of H was lowest root kept level count left start width hash small counted at whole start_is width_is entries added after in
          fold_step H entries added size level count (take width (drop start kept)) hash result (followed H was lowest root kept entries added at.whole after) at.up at.filled whole slice (at.told entries added after) folds;
    }

-- one tile more
pub tiles-more : (H : Digest) (was lowest : ℕ) (root : List ℕ) (kept : List (List ℕ)) (level count left start width : ℕ) (hash : List ℕ) (old new : List (Tile × List ℕ)) (bytes : List ℕ)
    → was + 256 ^ lowest < 2 ^ 32 → length kept ≡ count_below was 8 → AreFilling H was lowest root kept level count left hash → AreTilesBelow H was lowest root kept level old → count % 256 ≡ 0
    → start ≡ left - 255 → width ≡ 255 → bytes ≡ flat_map (λ hash. hash) (take width (drop start kept) ++ hash ∷ []) → new ≡ old ++ (full_tile level (count / 256 - 1), bytes) ∷ []
    → AreTilesBelow H was lowest root kept (level + 1) new
tiles-more H was lowest root kept level count left start width hash old new bytes small counted at tiles whole start_is width_is bytes_are pushed is_zero entries added after =
    let size : ℕ = was + 256 ^ lowest in
    let next = next_filled size level count at.filled whole in
    let index : count / 256 - 1 ≡ size / 256 ^ (level + 1) - 1 = ap (λ (x : ℕ). x - 1) (sym (count_is size (level + 1) (count / 256) next)) in
    let slice = slice_of H was lowest root kept level count left start width hash small counted at whole start_is width_is entries added after in
    tiles_more H (entries ++ added) size level (count / 256 - 1) old new bytes pushed (tiles is_zero entries added after) index
    (text_step H entries added size level count (take width (drop start kept)) hash bytes (followed H was lowest root kept entries added at.whole after) at.up at.filled whole slice (at.told entries added after) bytes_are)

-- the name of one tile more
pub names-more : (H : Digest) (was lowest : ℕ) (root : List ℕ) (kept : List (List ℕ)) (level count left : ℕ) (hash : List ℕ) (old new : List (Tile × List ℕ)) (bytes : List ℕ)
    → AreFilling H was lowest root kept level count left hash → AreNamesBelow was lowest level old → count % 256 ≡ 0
    → new ≡ old ++ (full_tile level (count / 256 - 1), bytes) ∷ [] → AreNamesBelow was lowest (level + 1) new
names-more H was lowest root kept level count left hash old new bytes at names whole pushed is_zero =
    let size : ℕ = was + 256 ^ lowest in
    let f : ℕ → Tile = λ l. full_tile l (size / 256 ^ (l + 1) - 1) in
    let next = next_filled size level count at.filled whole in
    let index : count / 256 - 1 ≡ size / 256 ^ (level + 1) - 1 = ap (λ (x : ℕ). x - 1) (sym (count_is size (level + 1) (count / 256) next)) in
    let own : full_tile level (count / 256 - 1) ≡ f level = ap (full_tile level) index in
    let more : tiles_below size (level + 1) ≡ tiles_below size level ++ f level ∷ [] = map-range_with_len_more f 0 level level (omega arith) in
    ap tiles_in pushed ∙ map-append (λ (t : Tile × List ℕ). t.0) old ((full_tile level (count / 256 - 1), bytes) ∷ [])
    ∙ (λ i. names is_zero i ++ own i ∷ []) ∙ sym more

-- ---- at the end of the loop

pub filling-names : (H : Digest) (was lowest : ℕ) (root : List ℕ) (kept : List (List ℕ)) (level count left : ℕ) (hash : List ℕ) (tiles : List (Tile × List ℕ)) → was + 256 ^ lowest < 2 ^ 32
    → AreFilling H was lowest root kept level count left hash → AreNamesBelow was lowest level tiles → (count % 256 ≡ 0 → ⊥) → lowest ≡ 0
    → tiles_in tiles ≡ filled_tiles (was + 256 ^ lowest)
filling-names H was lowest root kept level count left hash tiles small at names partly is_zero =
    let size : ℕ = was + 256 ^ lowest in
    let low = low_level size level count small at.filled in
    let levels = filled_levels_are size level count at.filled partly (omega (arith, low)) in
    names is_zero ∙ sym (ap (map (λ l. full_tile l (size / 256 ^ (l + 1) - 1))) levels)

pub filling-kept : (H : Digest) (was lowest : ℕ) (root : List ℕ) (kept : List (List ℕ)) (level count left : ℕ) (hash : List ℕ) → was + 256 ^ lowest < 2 ^ 32
    → AreFilling H was lowest root kept level count left hash → (count % 256 ≡ 0 → ⊥) → (entries added : List (List ℕ)) → IsPlaceAfter H was lowest kept root entries added
    → take left kept ++ hash ∷ [] ≡ hashes_below H (entries ++ added) 8
filling-kept H was lowest root kept level count left hash small at partly entries added after =
    let size : ℕ = was + 256 ^ lowest in
    let low = low_level size level count small at.filled in
    fill_kept H entries added size level count left hash kept (followed H was lowest root kept entries added at.whole after) at.up at.filled partly (omega (arith, low)) (at.told entries added after) after.kept_are
    (omega (arith, at.place, ap (λ (x : ℕ). count_below x level) after.sized))

pub filling-tiles : (H : Digest) (was lowest : ℕ) (root : List ℕ) (kept : List (List ℕ)) (level count left : ℕ) (hash : List ℕ) (tiles : List (Tile × List ℕ)) → was + 256 ^ lowest < 2 ^ 32
    → AreFilling H was lowest root kept level count left hash → AreTilesBelow H was lowest root kept level tiles → (count % 256 ≡ 0 → ⊥) → lowest ≡ 0
    → (entries added : List (List ℕ)) → IsPlaceAfter H was lowest kept root entries added → tiles ≡ shown_filled H (entries ++ added)
filling-tiles H was lowest root kept level count left hash tiles small at below partly is_zero entries added after =
    let size : ℕ = was + 256 ^ lowest in
    let low = low_level size level count small at.filled in
    let new : size ≡ length (entries ++ added) = sym (followed H was lowest root kept entries added at.whole after).sized in
    let levels = filled_levels_are size level count at.filled partly (omega (arith, low)) in
    let filled : tiles_below size level ≡ filled_tiles size = sym (ap (map (λ l. full_tile l (size / 256 ^ (l + 1) - 1))) levels) in
    below is_zero entries added after ∙ ap (map (shown H (entries ++ added))) (filled ∙ ap filled_tiles new)

-- the number of hashes afterwards, by the hashes of any list of that size
pub filling-count : (H : Digest) (was lowest : ℕ) (root : List ℕ) (kept : List (List ℕ)) (level count left : ℕ) (hash : List ℕ) → was + 256 ^ lowest < 2 ^ 32 → length kept ≡ count_below was 8
    → AreFilling H was lowest root kept level count left hash → (count % 256 ≡ 0 → ⊥) → left + 1 ≡ count_below (was + 256 ^ lowest) 8
filling-count H was lowest root kept level count left hash small counted at partly =
    let size : ℕ = was + 256 ^ lowest in
    let entries : List (List ℕ) = replicate was [] in
    let added : List (List ℕ) = replicate (256 ^ lowest) [] in
    let before : length entries ≡ was = length-replicate {A = List ℕ} was [] in
    let any : List (List ℕ) = hashes_below H entries 8 in
    let last : List ℕ = hash_at H (entries ++ added) level (count - 1) in
    let after : IsPlaceAfter H was lowest any (tree_hash H added) entries added = record { sized = before; full = length-replicate {A = List ℕ} (256 ^ lowest) []; kept_are = refl; root_is = refl } in
    let grows = followed H was lowest (tree_hash H added) any entries added at.whole after in
    let long : length any ≡ length kept = length-below H entries 8 ∙ ap (λ (x : ℕ). count_below x 8) before ∙ sym counted in
    let low = low_level size level count small at.filled in
    let whole = fill_kept H entries added size level count left last any grows at.up at.filled partly (omega (arith, low)) refl refl (omega (arith, at.place, long, ap (λ (x : ℕ). count_below x level) before)) in
    let taken : length (take left any) ≡ left = length-take-le left any (omega (arith, at.place, long)) in
    let all : length (take left any ++ last ∷ []) ≡ count_below size 8 =
    ap length whole ∙ length-below H (entries ++ added) 8 ∙ ap (λ (x : ℕ). count_below x 8) grows.sized in
    omega (arith, all, taken, length-append (take left any) (last ∷ []))
