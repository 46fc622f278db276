-- A tile's text is made of stored hashes.
use Rattle.std.proofs.Common.{◌≡◌, ℕ, zero, suc, ◌+◌, ◌-◌, ◌*◌, ◌^◌, ◌<◌, ◌≤◌, List, [], ◌∷◌, ◌++◌, length, map, take, drop, Any, slice_index_or, subst, refl, sym, ap, ◌∙◌, arith}
use Rattle.std.specs.List.{flat_map, range_with_len}
use Rattle.std.proofs.Math.Nat.{pow-succ'}
use Rattle.std.proofs.lemmas.Nat.{pow-add, mul-le}
use Rattle.std.proofs.lemmas.List.FromFn.{get_or-map-range_with_len, length-map-range_with_len, map-range_with_len_more}
use Rattle.tl_hash.specs.Bytes.{Digest}
use Rattle.tl_hash.specs.Tree.{tree_hash}
use Rattle.tl_store.specs.Stored.{stored_index, stored_hash}
use Rattle.tl_store.specs.Reader.{readable_count, AreReadable, GivesFault}
use Rattle.tl_store.specs.declared.reader.ReadFault.{ReadFault}
use Rattle.tl_store.specs.declared.reader.ReadFault.TheVariants.{OutOfRange, Source, OutOfMemory, BadTile}
use Rattle.tl_store.proofs.Readable.{readable-is, is-readable}
use Rattle.tl_store.proofs.StoredLemmas.{index_is_place}
use Rattle.tl_tile.specs.declared.resource.Tile.{Tile}
use Rattle.tl_tile.specs.TileText.{entries_under, tile_text}
use Rattle.tl_tile.specs.ReadTile.{end_of, HasTile, GivesTileFault}
use Rattle.tl_tile.specs.Inner.TileNumbers.{tile_numbers}

pub scaled_le : (a b u : ℕ) → a ≤ b → a * u ≤ b * u
scaled_le a b u less = mul-le a u b u less (omega arith)

-- 2 ^ level in tiles of height 8
pub pow_of_256 : (level : ℕ) → 256 ^ level ≡ 2 ^ (level * 8)
pow_of_256 zero = refl
pow_of_256 (suc level) =
    let sum : 8 + level * 8 ≡ suc level * 8 = omega arith in
    pow-succ' 256 level ∙ ap (λ (x : ℕ). 256 * x) (pow_of_256 level) ∙ sym (pow-add 2 8 (level * 8)) ∙ ap (λ (x : ℕ). 2 ^ x) sum

pub tile_height : (level : ℕ) → 2 ^ (8 * level) ≡ 256 ^ level
tile_height level = let turned : 8 * level ≡ level * 8 = omega arith in ap (λ (x : ℕ). 2 ^ x) turned ∙ sym (pow_of_256 level)

-- the entries under a hash of a tile are among those under the tile
pub hash_within : (level index i width : ℕ) → i < width → {end : ℕ} → (index * 256 + width) * 256 ^ level ≤ end → (index * 256 + i + 1) * 2 ^ (8 * level) ≤ end
hash_within level index i width less within =
    let m : (index * 256 + i + 1) * 256 ^ level ≤ (index * 256 + width) * 256 ^ level = scaled_le (index * 256 + i + 1) (index * 256 + width) (256 ^ level) (omega (arith, less)) in
    omega (arith, m, within, ap (λ (x : ℕ). (index * 256 + i + 1) * x) (tile_height level))

-- the stored hashes of a tile, one after the other, are its text
pub stored_text : (H : Digest) (level index a n : ℕ) (entries : List (List ℕ)) → (index * 256 + (a + n)) * 256 ^ level ≤ length entries
    → flat_map (λ hash. hash) (map (stored_hash H entries) (map (λ i. stored_index (8 * level) (index * 256 + i)) (range_with_len a n)))
    ≡ flat_map (λ i. tree_hash H (entries_under level (index * 256 + i) entries)) (range_with_len a n)
stored_text H level index a zero entries within = refl
stored_text H level index a (suc n) entries within =
    let stored = index_is_place H entries (8 * level) (index * 256 + a) (hash_within level index a (a + suc n) (omega arith) within) in
    let height = tile_height level in
    let first : stored_hash H entries (stored_index (8 * level) (index * 256 + a)) ≡ tree_hash H (entries_under level (index * 256 + a) entries) =
    stored.1 ∙ (λ i. tree_hash H (take (height i) (drop ((index * 256 + a) * height i) entries))) in
    let sum : a + 1 + n ≡ a + suc n = omega arith in
    let same : (index * 256 + (a + 1 + n)) * 256 ^ level ≡ (index * 256 + (a + suc n)) * 256 ^ level = ap (λ (x : ℕ). (index * 256 + x) * 256 ^ level) sum in
    let rest = stored_text H level index (a + 1) n entries (omega (arith, within, same)) in
    λ i. first i ++ rest i

pub tile_text-stored : (H : Digest) (t : Tile) (size : ℕ) (entries : List (List ℕ)) (numbers : List ℕ) (hashes : List (List ℕ)) (bytes : List ℕ) → HasTile size t → length entries ≡ size
    → numbers ≡ tile_numbers t → hashes ≡ map (stored_hash H entries) numbers → bytes ≡ flat_map (λ hash. hash) hashes → bytes ≡ tile_text H t entries
tile_text-stored H t size entries numbers hashes bytes has len numbers_are hashes_are bytes_are =
    let sum : t.width ≡ 0 + t.width = omega arith in
    let same : (t.index * 256 + (0 + t.width)) * 256 ^ t.level ≡ end_of t = ap (λ (x : ℕ). (t.index * 256 + x) * 256 ^ t.level) (sym sum) in
    bytes_are ∙ ap (flat_map (λ hash. hash)) (hashes_are ∙ ap (map (stored_hash H entries)) numbers_are)
    ∙ stored_text H t.level t.index 0 t.width entries (omega (arith, has.1, len, same))

-- the reader has the tile if it has all its numbers
number_at : (t : Tile) (i d : ℕ) → i < t.width → slice_index_or (tile_numbers t) i d ≡ stored_index (8 * t.level) (t.index * 256 + i)
number_at t i d less = get_or-map-range_with_len (λ x. stored_index (8 * t.level) (t.index * 256 + x)) 0 t.width i i d less (omega arith)

length-numbers : (t : Tile) → length (tile_numbers t) ≡ t.width
length-numbers t = length-map-range_with_len (λ x. stored_index (8 * t.level) (t.index * 256 + x)) 0 t.width

pub has_tile : (t : Tile) (size : ℕ) (numbers : List ℕ) → 0 < t.width → numbers ≡ tile_numbers t → AreReadable size numbers → HasTile size t
has_tile t size numbers wide are readable =
    let i : ℕ = t.width - 1 in
    let all : AreReadable size (tile_numbers t) = subst (AreReadable size) are readable in
    let below : stored_index (8 * t.level) (t.index * 256 + i) < readable_count size =
    subst (λ (x : ℕ). x < readable_count size) (number_at t i 0 (omega (arith, wide))) (all i 0 (omega (arith, length-numbers t, wide))) in
    let found = readable-is size (8 * t.level) (t.index * 256 + i) below in
    let last : t.index * 256 + i + 1 ≡ t.index * 256 + t.width = omega (arith, wide) in
    let height = tile_height t.level in
    let same : (t.index * 256 + i + 1) * 2 ^ (8 * t.level) ≡ end_of t = (λ j. last j * height j) in
    (found.0, omega (arith, found.1, same))

pub has_no_tile : (t : Tile) (size : ℕ) (numbers : List ℕ) → numbers ≡ tile_numbers t → Any (λ index. readable_count size ≤ index) numbers → HasTile size t → ⊥
has_no_tile t size numbers are (i, number, within, at, beyond) has =
    let less : i < t.width = omega (arith, within, ap length are, length-numbers t) in
    let number_is : number ≡ stored_index (8 * t.level) (t.index * 256 + i) = sym at ∙ ap (λ (list : List ℕ). slice_index_or list i number) are ∙ number_at t i number less in
    omega (arith, beyond, number_is, is-readable size (8 * t.level) (t.index * 256 + i) has.0 (hash_within t.level t.index i t.width less has.1))

-- a fault of the reader is one of the tile
pub tile_fault : (t : Tile) (size : ℕ) (may_fail : ReadFault → Type 0) (numbers : List ℕ) (fault : ReadFault) → 0 < t.width → numbers ≡ tile_numbers t → GivesFault size may_fail numbers fault → GivesTileFault size may_fail t fault
tile_fault t size may_fail numbers OutOfRange wide are gives = has_no_tile t size numbers are gives
tile_fault t size may_fail numbers Source wide are gives = (gives.0, has_tile t size numbers wide are gives.1)
tile_fault t size may_fail numbers OutOfMemory wide are gives = tt
tile_fault t size may_fail numbers (BadTile level index width) wide are gives = (gives.0, has_tile t size numbers wide are gives.1)

-- one number more
pub numbers_more : (level index i : ℕ) (before after : List ℕ) (number : ℕ) → before ≡ map (λ x. stored_index (8 * level) (index * 256 + x)) (range_with_len 0 i)
    → number ≡ stored_index (8 * level) (index * 256 + i) → after ≡ before ++ number ∷ [] → after ≡ map (λ x. stored_index (8 * level) (index * 256 + x)) (range_with_len 0 (i + 1))
numbers_more level index i before after number is number_is pushed =
    pushed ∙ (λ j. is j ++ number_is j ∷ []) ∙ sym (map-range_with_len_more (λ x. stored_index (8 * level) (index * 256 + x)) 0 i i (omega arith))
