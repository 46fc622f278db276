-- What is read from checked tiles.
use Rattle.std.proofs.Common.{◌≡◌, ℕ, ◌+◌, ◌*◌, ◌/◌, ◌%◌, ◌^◌, ◌<◌, ◌≤◌, ◌⊎◌, inl, inr, List, [], ◌∷◌, ◌++◌, length, map, take, get_or, Some, refl, sym, ap, subst, ◌∙◌, arith}
use Rattle.std.specs.List.{AllZip}
use Rattle.std.proofs.Math.Nat.{div-le_self}
use Rattle.std.proofs.lemmas.Nat.{pow_pos, le-div}
use Rattle.std.proofs.lemmas.Bool.{cases_lt}
use Rattle.std.proofs.lemmas.List.{take_more, take_all}
use Rattle.tl_hash.specs.Bytes.{Digest}
use Rattle.tl_hash.specs.Tree.{tree_hash}
use Rattle.tl_tile.proofs.Segments.{HasHashLength}
use Rattle.tl_store.specs.Stored.{stored_hash}
use Rattle.tl_tile.specs.declared.resource.Tile.{Tile}
use Rattle.tl_tile.specs.declared.tile_reader.subtree.Subtree.{Subtree}
use Rattle.tl_tile.specs.TileText.{level_count, tile_with}
use Rattle.tl_tile.specs.Folds.{Tiles, AreChecked, IsSubtreeHash, TilesCollide}
use Rattle.tl_tile.specs.Fetched.{tiles_of}
use Rattle.tl_tile.specs.Source.{AreLong}
use Rattle.tl_tile.specs.Inner.Steps.{IsSubtreeOf, IsHashOfNumber, AreHashesOf}
use Rattle.tl_tile.specs.TileReader.{Reading, AreAuthentic}
use Rattle.tl_tile.specs.TileLaws.{AreHonest}
use Rattle.tl_tile.proofs.HonestHashes.{honest_tiles_have_stored_hashes}
use Rattle.tl_tile.proofs.Edges.{positive_256}
use Rattle.tl_tile.proofs.Checked.{tile_with-full, tile_with-partial, in_one_tile, power_in_256, height_of_8, checked_tiles_have_stored_hashes}

-- the first hash of a subtree among those of its tiles' level, and how many it has
abbrev pub first_of : Subtree → ℕ
first_of p = p.place * 2 ^ (p.level % 8)

abbrev pub count_of : Subtree → ℕ
count_of p = 2 ^ (p.level % 8)

-- they are all there
pub hashes_in : (size : ℕ) (p : Subtree) → IsSubtreeOf size p → first_of p + count_of p ≤ level_count size (p.level / 8)
hashes_in size p is =
    let d : ℕ = 2 ^ (p.level % 8) in
    let u : ℕ = 256 ^ (p.level / 8) in
    let end : (p.place + 1) * 2 ^ p.level ≡ (p.place * d + d) * u = ap (λ (x : ℕ). (p.place + 1) * x) (height_of_8 p.level) ∙ omega arith in
    le-div (p.place * d + d) size u (positive_256 (p.level / 8)) (omega (arith, end, is.1))

-- and in one tile
pub hashes_in_tile : (p : Subtree) → first_of p % 256 + count_of p ≤ 256
hashes_in_tile p =
    let e = power_in_256 (p.level % 8) (omega arith) in
    in_one_tile p.place (2 ^ (p.level % 8)) e.0 (pow_pos (p.level % 8)) e.1

pub hashes_within : (size : ℕ) (p : Subtree) → IsSubtreeOf size p → first_of p % 256 + count_of p ≤ (tile_with size (p.level / 8) (first_of p)).width
hashes_within size p is =
    let level : ℕ = p.level / 8 in
    elim (cases_lt (first_of p / 256) (level_count size level / 256)) as (λ _. first_of p % 256 + count_of p ≤ (tile_with size level (first_of p)).width) [
      | inl full ↦ omega (arith, hashes_in_tile p, ap (λ (t : Tile). t.width) (tile_with-full size level (first_of p) full))
      | inr more ↦ omega (arith, hashes_in size p is, more, pow_pos (p.level % 8), ap (λ (t : Tile). t.width) (tile_with-partial size level (first_of p) more))
    ]

-- a place of a level lies in its tile's text
pub place_within : (tiles : Tiles) (size level place : ℕ) (text : List ℕ) → AreLong tiles → place < level_count size level → tiles (tile_with size level place) ≡ Some text → 32 * (place % 256) + 32 ≤ length text
place_within tiles size level place text long less found =
    elim (cases_lt (place / 256) (level_count size level / 256)) as (λ _. 32 * (place % 256) + 32 ≤ length text) [
      | inl full ↦ omega (arith, long _ text found, ap (λ (t : Tile). t.width) (tile_with-full size level place full))
      | inr more ↦ omega (arith, long _ text found, less, more, ap (λ (t : Tile). t.width) (tile_with-partial size level place more))
    ]

pub text_within : (tiles : Tiles) (size : ℕ) (p : Subtree) (tile : Tile) (text : List ℕ) → IsSubtreeOf size p → AreLong tiles → tile ≡ tile_with size (p.level / 8) (first_of p) → tiles tile ≡ Some text
    → 32 * (first_of p % 256 + count_of p) ≤ length text
text_within tiles size p tile text is long at found =
    omega (arith, long tile text found, hashes_within size p is, ap (λ (t : Tile). t.width) at)

-- what was fetched stays
abbrev pub Grows : List (Tile × List ℕ) → List (Tile × List ℕ) → Type 0
Grows fetched after = (t : Tile) (text : List ℕ) → tiles_of fetched t ≡ Some text → tiles_of after t ≡ Some text

-- the hashes stay
subtree_hash-later : (H : Digest) (xs ys : List (Tile × List ℕ)) (size level place : ℕ) (hash : List ℕ) → Grows xs ys → IsSubtreeHash H (tiles_of xs) size level place hash → IsSubtreeHash H (tiles_of ys) size level place hash
subtree_hash-later H xs ys size level place hash grows are =
    record { text = are.text; strings = are.strings; fetched = grows (tile_with size (level / 8) (place * 2 ^ (level % 8))) are.text are.fetched; folds = are.folds }

number-later : (H : Digest) (xs ys : List (Tile × List ℕ)) (size index : ℕ) (hash : List ℕ) → Grows xs ys → IsHashOfNumber H (tiles_of xs) size index hash → IsHashOfNumber H (tiles_of ys) size index hash
number-later H xs ys size index hash grows are =
    record { subtree = are.subtree; within = are.within; number = are.number; hash_is = subtree_hash-later H xs ys size are.subtree.level are.subtree.place hash grows are.hash_is }

pub all-later : (H : Digest) (xs ys : List (Tile × List ℕ)) (size : ℕ) (indexes : List ℕ) (hashes : List (List ℕ)) → Grows xs ys → AreHashesOf H (tiles_of xs) size indexes hashes → AreHashesOf H (tiles_of ys) size indexes hashes
all-later H xs ys size [] [] grows are = tt
all-later H xs ys size [] (h ∷ hashes) grows are = are
all-later H xs ys size (n ∷ indexes) [] grows are = are
all-later H xs ys size (n ∷ indexes) (h ∷ hashes) grows are = (number-later H xs ys size n h grows are.0, all-later H xs ys size indexes hashes grows are.1)

-- all these hashes are stored, or there is a collision
all-stored : (H : Digest) → ((message : List ℕ) → HasHashLength (H message)) → (tiles : Tiles) (size : ℕ) (root : List ℕ) → AreChecked H tiles size root
    → (entries : List (List ℕ)) → length entries ≡ size → tree_hash H entries ≡ root
    → (indexes : List ℕ) (hashes : List (List ℕ)) → AreHashesOf H tiles size indexes hashes
    → (hashes ≡ map (stored_hash H entries) indexes) ⊎ TilesCollide H tiles size entries
all-stored H wide tiles size root checked entries len is_root [] [] are = inl refl
all-stored H wide tiles size root checked entries len is_root [] (h ∷ hashes) are = absurd are
all-stored H wide tiles size root checked entries len is_root (n ∷ indexes) [] are = absurd are
all-stored H wide tiles size root checked entries len is_root (n ∷ indexes) (h ∷ hashes) are =
    elim (checked_tiles_have_stored_hashes H wide tiles size root checked are.0.subtree.level are.0.subtree.place h are.0.within.1 are.0.hash_is entries len is_root)
    as (λ _. (h ∷ hashes ≡ map (stored_hash H entries) (n ∷ indexes)) ⊎ TilesCollide H tiles size entries) [
      | inr found ↦ inr found
      | inl first ↦
          elim (all-stored H wide tiles size root checked entries len is_root indexes hashes are.1)
          as (λ _. (h ∷ hashes ≡ map (stored_hash H entries) (n ∷ indexes)) ⊎ TilesCollide H tiles size entries) [
            | inr found ↦ inr found
            | inl rest ↦ (let own : h ≡ stored_hash H entries n = first ∙ ap (stored_hash H entries) are.0.number in inl (λ i. own i ∷ rest i))
          ]
    ]

-- if the tiles are honest, all these hashes are stored
all-honest : (H : Digest) → ((message : List ℕ) → HasHashLength (H message)) → (tiles : Tiles) (entries : List (List ℕ)) → AreHonest H tiles entries
    → (indexes : List ℕ) (hashes : List (List ℕ)) → AreHashesOf H tiles (length entries) indexes hashes → hashes ≡ map (stored_hash H entries) indexes
all-honest H wide tiles entries honest [] [] are = refl
all-honest H wide tiles entries honest [] (h ∷ hashes) are = absurd are
all-honest H wide tiles entries honest (n ∷ indexes) [] are = absurd are
all-honest H wide tiles entries honest (n ∷ indexes) (h ∷ hashes) are =
    let first : h ≡ stored_hash H entries n =
    honest_tiles_have_stored_hashes H wide tiles entries honest are.0.subtree.level are.0.subtree.place h are.0.within.1 are.0.hash_is ∙ ap (stored_hash H entries) are.0.number in
    let rest = all-honest H wide tiles entries honest indexes hashes are.1 in
    λ i. first i ∷ rest i

pub authentic : (H : Digest) → ((message : List ℕ) → HasHashLength (H message)) → (read : Reading) → AreChecked H (tiles_of read.fetched) read.size read.root
    → (hashes : List (List ℕ)) → AreHashesOf H (tiles_of read.fetched) read.size read.indexes hashes → AreAuthentic H read hashes
authentic H wide read checked hashes are = record {
  stored = λ entries len is_root. all-stored H wide (tiles_of read.fetched) read.size read.root checked entries len is_root read.indexes hashes are;
  honest = λ entries len honest. all-honest H wide (tiles_of read.fetched) entries honest read.indexes hashes (subst (λ (s : ℕ). AreHashesOf H (tiles_of read.fetched) s read.indexes hashes) (sym len) are);
}

-- in the words of the code, which has the first hash's place and their number
pub part_inside : (tiles : Tiles) (size : ℕ) (p : Subtree) (first count : ℕ) (tile : Tile) (text : List ℕ) → first ≡ first_of p → count ≡ count_of p → IsSubtreeOf size p → AreLong tiles → tile ≡ tile_with size (p.level / 8) first → tiles tile ≡ Some text
    → 32 * (first % 256 + count) ≤ length text
part_inside tiles size p first count tile text first_is count_is is long at found =
    let here : 32 * (first_of p % 256 + count_of p) ≤ length text = text_within tiles size p tile text is long (at ∙ ap (tile_with size (p.level / 8)) first_is) found in
    subst (λ (x : ℕ). 32 * (x % 256 + count) ≤ length text) (sym first_is) (subst (λ (x : ℕ). 32 * (first_of p % 256 + x) ≤ length text) (sym count_is) here)

pub first_below : (size : ℕ) (p : Subtree) (count : ℕ) → count ≡ count_of p → IsSubtreeOf size p → p.place * count < level_count size (p.level / 8)
first_below size p count count_is is =
    omega (arith, ap (λ (x : ℕ). p.place * x) count_is, hashes_in size p is, pow_pos (p.level % 8))

pub first_small : (size : ℕ) (p : Subtree) (count : ℕ) → count ≡ count_of p → IsSubtreeOf size p → size ≤ 2 ^ 62 → p.place * count < 2 ^ 64
first_small size p count count_is is small = omega (arith, first_below size p count count_is is, div-le_self size (256 ^ (p.level / 8)), small)

zip-push : (R : ℕ → List ℕ → Type 0) (ps : List ℕ) (hs : List (List ℕ)) (p : ℕ) (h : List ℕ) → AllZip R ps hs → R p h → AllZip R (ps ++ p ∷ []) (hs ++ h ∷ [])
zip-push R [] [] p h all here = (here, tt)
zip-push R [] (g ∷ hs) p h all here = absurd all
zip-push R (q ∷ ps) [] p h all here = absurd all
zip-push R (q ∷ ps) (g ∷ hs) p h all here = (all.0, zip-push R ps hs p h all.1 here)

-- one number more
pub hashes-more : (H : Digest) (xs ys : List (Tile × List ℕ)) (size i : ℕ) (indexes : List ℕ) (d : ℕ) (hashes after : List (List ℕ)) (hash : List ℕ) → i < length indexes
    → Grows xs ys → AreHashesOf H (tiles_of xs) size (take i indexes) hashes → IsHashOfNumber H (tiles_of ys) size (get_or indexes i d) hash → after ≡ hashes ++ hash ∷ []
    → AreHashesOf H (tiles_of ys) size (take (i + 1) indexes) after
hashes-more H xs ys size i indexes d hashes after hash within grows are here pushed =
    let R : ℕ → List ℕ → Type 0 = λ x h. IsHashOfNumber H (tiles_of ys) size x h in
    let n : ℕ = get_or indexes i d in
    let all : AllZip R (take i indexes ++ n ∷ []) (hashes ++ hash ∷ []) = zip-push R (take i indexes) hashes n hash (all-later H xs ys size (take i indexes) hashes grows are) here in
    subst (λ (list : List ℕ). AllZip R list after) (sym (take_more indexes i d within)) (subst (λ (list : List (List ℕ)). AllZip R (take i indexes ++ n ∷ []) list) (sym pushed) all)

pub authentic-all : (H : Digest) → ((message : List ℕ) → HasHashLength (H message)) → (read : Reading) → AreChecked H (tiles_of read.fetched) read.size read.root
    → (i : ℕ) (hashes : List (List ℕ)) → length read.indexes ≤ i → AreHashesOf H (tiles_of read.fetched) read.size (take i read.indexes) hashes → AreAuthentic H read hashes
authentic-all H wide read checked i hashes over are =
    authentic H wide read checked hashes
    (subst (λ (list : List ℕ). AreHashesOf H (tiles_of read.fetched) read.size list hashes) (take_all i read.indexes over) are)

pub hashes-none : (H : Digest) (xs : List (Tile × List ℕ)) (size : ℕ) (indexes : List ℕ) (hashes : List (List ℕ)) → hashes ≡ [] → AreHashesOf H (tiles_of xs) size (take 0 indexes) hashes
hashes-none H xs size indexes hashes none = subst (λ (list : List (List ℕ)). AreHashesOf H (tiles_of xs) size (take 0 indexes) list) (sym none) tt
