-- What checked tiles fold to is what the entries hash to, or a collision.
use Rattle.std.proofs.Common.{◌≡◌, ℕ, zero, suc, ◌+◌, ◌-◌, ◌*◌, ◌/◌, ◌%◌, ◌^◌, ◌<◌, ◌≤◌, ◌⊎◌, inl, inr, List, length, take, drop, Some, Contains, refl, sym, ap, subst, ◌∙◌, arith}
use Rattle.std.proofs.Math.Nat.{div-div-eq-div-mul}
use Rattle.std.proofs.lemmas.Nat.{pow-add, pow_pos, le-div, div-mul-add, mod-mul-add}
use Rattle.std.proofs.lemmas.Bool.{cases_lt, cases_eq, lt-ltb, le-ltb}
use Rattle.std.proofs.lemmas.List.{length-drop}
use Rattle.tl_hash.specs.Bytes.{Digest}
use Rattle.tl_hash.specs.Tree.{tree_hash, inputs}
use Rattle.tl_store.specs.Stored.{stored_index, stored_hash}
use Rattle.tl_store.proofs.StoredLemmas.{index_is_place}
use Rattle.tl_tile.proofs.TileTexts.{pow_of_256}
use Rattle.tl_tile.proofs.Segments.{HasHashLength, segment, power_of_256, segment-of_rest, scaled_le}
use Rattle.tl_tile.specs.TileText.{level_count, entries_under, full_tile, partial_tile, tile_with}
use Rattle.tl_tile.specs.Folds.{Tiles, IsHashAt, IsOwnHash, FoldsToAbove, AreChecked, IsPartHash, TilesCollide}
use Rattle.tl_tile.specs.Inner.TileLaws.{CheckedTilesHaveStoredHashes}
use Rattle.tl_tile.proofs.Walks.{IsTarget, walk, fold_of_right}
use Rattle.tl_tile.proofs.Subtrees.{inputs-subtree}
use Rattle.tl_tile.proofs.Edges.{IsHashAt-one, positive_256, under_within, tiles_collide, edge_right}

-- the levels' counts
pub level_count-above : (size level : ℕ) → level_count size (level + 1) ≡ level_count size level / 256
level_count-above size level =
    let power : 256 ^ (level + 1) ≡ 256 ^ level * 256 = pow-add 256 level 1 in
    ap (λ (x : ℕ). size / x) power ∙ sym (div-div-eq-div-mul size (256 ^ level) 256)

pub tile_with-full : (size level place : ℕ) → place / 256 < level_count size level / 256 → tile_with size level place ≡ full_tile level (place / 256)
tile_with-full size level place less = rw (lt-ltb (place / 256) (level_count size level / 256) less) refl

pub tile_with-partial : (size level place : ℕ) → level_count size level / 256 ≤ place / 256 → tile_with size level place ≡ partial_tile size level
tile_with-partial size level place more = rw (le-ltb (place / 256) (level_count size level / 256) more) refl

-- places of one tile
pub tile_with-same : (size level place other : ℕ) → place / 256 ≡ other / 256 → tile_with size level place ≡ tile_with size level other
tile_with-same size level place other same =
    elim (cases_lt (place / 256) (level_count size level / 256)) as (λ _. tile_with size level place ≡ tile_with size level other) [
      | inl less ↦ tile_with-full size level place less ∙ ap (full_tile level) same ∙ sym (tile_with-full size level other (omega (arith, less, same)))
      | inr more ↦ tile_with-partial size level place more ∙ sym (tile_with-partial size level other (omega (arith, more, same)))
    ]

-- one hash of a full tile is a place that the walk from its own hash can go to
own_target : (text : List ℕ) (n : ℕ) (hash_there : List ℕ) → IsHashAt text n hash_there → IsTarget (IsOwnHash text) n 1 hash_there
own_target text n hash_there is = record {
  power = (0, refl);
  is_given = (refl, is);
  only = λ h other. IsHashAt-one text n h hash_there other.1 is;
  clear = λ s c h more low high other. absurd (omega (arith, more, other.0));
  widths = λ s c h other. other.1.whole;
}

-- the entries under a tile's hash, seen from the tile
pub under_tile : (level index : ℕ) (entries : List (List ℕ))
    → entries_under (level + 1) index entries ≡ segment (256 ^ level) 0 256 (drop (index * 256 * 256 ^ level) entries)
under_tile level index entries =
    let u : ℕ = 256 ^ level in
    let power : 256 ^ (level + 1) ≡ 256 * u = pow-add 256 level 1 ∙ omega arith in
    let start : index * 256 ^ (level + 1) ≡ (index * 256 + 0) * u = ap (λ (x : ℕ). index * x) power ∙ omega arith in
    (λ i. take (power i) (drop (start i) entries)) ∙ sym (segment-of_rest u 0 256 (index * 256) entries)

pub under_place : (level index n : ℕ) (entries : List (List ℕ))
    → segment (256 ^ level) n 1 (drop (index * 256 * 256 ^ level) entries) ≡ entries_under level (index * 256 + n) entries
under_place level index n entries =
    let u : ℕ = 256 ^ level in
    let one : 1 * u ≡ u = omega arith in
    segment-of_rest u n 1 (index * 256) entries ∙ ap (λ (x : ℕ). take x (drop ((index * 256 + n) * u) entries)) one

abbrev IsRight : (List ℕ → List ℕ) → Tiles → ℕ → List (List ℕ) → ℕ → ℕ → List ℕ → Type 0
IsRight H tiles size entries level place hash_there = (hash_there ≡ tree_hash H (entries_under level place entries)) ⊎ TilesCollide H tiles size entries

-- the hashes of a full tile are right, once its own hash is
full_right : (H : Digest) → ((message : List ℕ) → HasHashLength (H message)) → (tiles : Tiles) (size : ℕ) (entries : List (List ℕ)) → length entries ≡ size
    → (level index n : ℕ) (text hash_there hash : List ℕ) (strings : List (List ℕ)) → n < 256 → index < level_count size (level + 1) → tiles (full_tile level index) ≡ Some text → IsHashAt text n hash_there
    → IsPartHash H text 0 256 hash strings → hash ≡ tree_hash H (entries_under (level + 1) index entries)
    → IsRight H tiles size entries level (index * 256 + n) hash_there
full_right H wide tiles size entries len level index n text hash_there hash strings low less fetched is folds same =
    let u : ℕ = 256 ^ level in
    let rest : List (List ℕ) = drop (index * 256 * u) entries in
    let power : 256 ^ (level + 1) ≡ 256 * u = pow-add 256 level 1 ∙ omega arith in
    let end : (index + 1) * 256 ^ (level + 1) ≡ (index + 1) * 256 * u = ap (λ (x : ℕ). (index + 1) * x) power ∙ omega arith in
    let within : (index + 1) * 256 ^ (level + 1) ≤ size = under_within size (level + 1) index less in
    let fits : (0 + 256) * u ≤ length rest = omega (arith, within, end, len, length-drop (index * 256 * u) entries) in
    let under : entries_under (level + 1) index entries ≡ segment u 0 256 rest = under_tile level index entries in
    elim (walk H (IsOwnHash text) wide u (power_of_256 level) rest n 1 hash_there (own_target text n hash_there is)
    0 256 hash strings folds fits (same ∙ ap (tree_hash H) under) n (omega arith) (omega (arith, low)))
    as (λ _. IsRight H tiles size entries level (index * 256 + n) hash_there) [
      | inl right ↦ inl (right ∙ ap (tree_hash H) (under_place level index n entries))
      | inr found ↦ inr (tiles_collide H tiles size entries (segment u 0 256 rest) strings
          (λ x among. inr (record { level = level; index = index; text = text; hash = hash; strings = strings; fetched = fetched; folds = folds; among = among }))
          (λ x among. inputs-subtree H (256 ^ (level + 1)) (power_of_256 (level + 1)) entries index (omega (arith, within, len)) x
          (subst (λ (list : List (List ℕ)). Contains (inputs H list) x) (sym under) among))
          found)
    ]

-- each hash of each checked tile is right, or there is a collision
pub place_right : (H : Digest) → ((message : List ℕ) → HasHashLength (H message)) → (tiles : Tiles) (size : ℕ) (root : List ℕ) → AreChecked H tiles size root
    → (entries : List (List ℕ)) → length entries ≡ size → tree_hash H entries ≡ root
    → (fuel level place : ℕ) (text hash_there : List ℕ) → level_count size level ≤ fuel → place < level_count size level
    → tiles (tile_with size level place) ≡ Some text → IsHashAt text (place % 256) hash_there → IsRight H tiles size entries level place hash_there
place_right H wide tiles size root checked entries len is_root zero level place text hash_there low less fetched is = absurd (omega (arith, low, less))
place_right H wide tiles size root checked entries len is_root (suc fuel) level place text hash_there low less fetched is =
    elim (cases_lt (place / 256) (level_count size level / 256)) as (λ _. IsRight H tiles size entries level place hash_there) [
      | inr more ↦
          edge_right H wide tiles size root checked.strings checked.folds entries len is_root level place text hash_there (omega (arith, more), less)
          (ap tiles (sym (tile_with-partial size level place more)) ∙ fetched) is
      | inl below ↦
          let index : ℕ = place / 256 in
          let above_less : index < level_count size (level + 1) = omega (arith, below, level_count-above size level) in
          let here : tiles (full_tile level index) ≡ Some text = ap tiles (sym (tile_with-full size level place below)) ∙ fetched in
          let up : FoldsToAbove H tiles size level index text = checked.full level index text above_less here in
          let place_is : index * 256 + place % 256 ≡ place = omega arith in
          elim (place_right H wide tiles size root checked entries len is_root fuel (level + 1) index up.above up.hash
          (omega (arith, low, less, level_count-above size level)) above_less up.fetched up.there) as (λ _. IsRight H tiles size entries level place hash_there) [
            | inr found ↦ inr found
            | inl same ↦
                subst (λ (p : ℕ). IsRight H tiles size entries level p hash_there) place_is
                (full_right H wide tiles size entries len level index (place % 256) text hash_there up.hash up.strings (omega arith) above_less here is up.folds same)
          ]
    ]

-- all of finitely many, or something else
all_or : (P : ℕ → Type 0) (Q : Type 0) (n : ℕ) → ((j : ℕ) → j < n → P j ⊎ Q) → ((j : ℕ) → j < n → P j) ⊎ Q
all_or P Q zero each = inl (λ j less. absurd (omega (arith, less)))
all_or P Q (suc n) each =
    elim (all_or P Q n (λ j less. each j (omega (arith, less)))) as (λ _. ((j : ℕ) → j < suc n → P j) ⊎ Q) [
      | inr other ↦ inr other
      | inl before ↦
          elim (each n (omega arith)) as (λ _. ((j : ℕ) → j < suc n → P j) ⊎ Q) [
            | inr other ↦ inr other
            | inl last ↦ inl (λ j less. elim (cases_eq j n) as (λ _. P j) [
              | inl same ↦ subst P (sym same) last
              | inr differ ↦ before j (omega (arith, less, differ))
            ])
          ]
    ]

-- the places under a power of two that divides 256 lie in one tile
pub in_one_tile : (p d e : ℕ) → 0 < d → e * d ≡ 256 → p * d % 256 + d ≤ 256
in_one_tile p d e some whole =
    let t : ℕ = p * d / 256 in
    let r : ℕ = p * d % 256 in
    let product : t * 256 ≡ t * e * d = ap (λ (x : ℕ). t * x) (sym whole) ∙ omega arith in
    elim (cases_lt p (t * e + e)) as (λ _. p * d % 256 + d ≤ 256) [
      | inl less ↦ (let m : (p + 1) * d ≤ (t * e + e) * d = scaled_le (p + 1) (t * e + e) d (omega (arith, less)) in omega (arith, m, product, whole))
      | inr more ↦ (let m : (t * e + e) * d ≤ p * d = scaled_le (t * e + e) p d more in absurd (omega (arith, m, product, whole)))
    ]

pub power_in_256 : (r : ℕ) → r < 8 → (e : ℕ) × (e * 2 ^ r ≡ 256)
power_in_256 r less =
    let sum : 8 - r + r ≡ 8 = omega (arith, less) in
    (2 ^ (8 - r), sym (pow-add 2 (8 - r) r) ∙ ap (λ (x : ℕ). 2 ^ x) sum)

pub height_of_8 : (level : ℕ) → 2 ^ level ≡ 2 ^ (level % 8) * 256 ^ (level / 8)
height_of_8 level =
    let sum : level ≡ level % 8 + level / 8 * 8 = omega arith in
    ap (λ (x : ℕ). 2 ^ x) sum ∙ pow-add 2 (level % 8) (level / 8 * 8) ∙ ap (λ (x : ℕ). 2 ^ (level % 8) * x) (sym (pow_of_256 (level / 8)))

-- some hashes of a checked tile fold to the hash of the entries under them, or there is a collision
pub part_right : (H : Digest) → ((message : List ℕ) → HasHashLength (H message)) → (tiles : Tiles) (size : ℕ) (root : List ℕ) → AreChecked H tiles size root
    → (entries : List (List ℕ)) → length entries ≡ size → tree_hash H entries ≡ root
    → (level place count : ℕ) (text hash : List ℕ) (strings : List (List ℕ)) → place % 256 + count ≤ 256 → (place + count) * 256 ^ level ≤ size
    → tiles (tile_with size level place) ≡ Some text → IsPartHash H text (place % 256) count hash strings
    → (hash ≡ tree_hash H (segment (256 ^ level) place count entries)) ⊎ TilesCollide H tiles size entries
part_right H wide tiles size root checked entries len is_root level place count text hash strings in_tile in_size fetched folds =
    let u : ℕ = 256 ^ level in
    let index : ℕ = place / 256 in
    let start : ℕ = place % 256 in
    let rest : List (List ℕ) = drop (index * 256 * u) entries in
    let place_is : index * 256 + start ≡ place = omega arith in
    let places : place + count ≤ level_count size level = le-div (place + count) size u (positive_256 level) in_size in
    let Right : ℕ → Type 0 = λ j. (h : List ℕ) → IsHashAt text (start + j) h → h ≡ tree_hash H (segment u (start + j) 1 rest) in
    let each : (j : ℕ) → j < count → Right j ⊎ TilesCollide H tiles size entries =
    (λ j less.
    let n : ℕ = start + j in
    let low : n < 256 = omega (arith, less, in_tile) in
    let here : ℕ = index * 256 + n in
    let row : here / 256 ≡ index = div-mul-add index 256 n low in
    let column : here % 256 ≡ n = mod-mul-add index 256 n low in
    let same_tile : tiles (tile_with size level here) ≡ Some text = ap tiles (tile_with-same size level here place row) ∙ fetched in
    elim (cases_eq (length (take 32 (drop (32 * n) text))) 32) as (λ _. Right j ⊎ TilesCollide H tiles size entries) [
      | inr short ↦ inl (λ h is. absurd (short (ap length (sym is.bytes) ∙ is.whole)))
      | inl whole ↦
          let hash_there : List ℕ = take 32 (drop (32 * n) text) in
          let is_here : IsHashAt text (here % 256) hash_there = record { bytes = ap (λ (x : ℕ). take 32 (drop (32 * x) text)) (sym column); whole = whole } in
          elim (place_right H wide tiles size root checked entries len is_root (level_count size level) level here text hash_there (omega arith)
          (omega (arith, places, place_is, less)) same_tile is_here) as (λ _. Right j ⊎ TilesCollide H tiles size entries) [
            | inr found ↦ inr found
            | inl right ↦ inl (λ h is. is.bytes ∙ right ∙ ap (tree_hash H) (sym (under_place level index n entries)))
          ]
    ]) in
    elim (all_or Right (TilesCollide H tiles size entries) count each) as (λ _. (hash ≡ tree_hash H (segment u place count entries)) ⊎ TilesCollide H tiles size entries) [
      | inr found ↦ inr found
      | inl all ↦
          let product : (place + count) * u ≡ index * 256 * u + (start + count) * u = ap (λ (x : ℕ). (x + count) * u) (sym place_is) ∙ omega arith in
          let fits : (start + count) * u ≤ length rest = omega (arith, length-drop (index * 256 * u) entries, in_size, product, len) in
          let right : hash ≡ tree_hash H (segment u start count rest) =
          fold_of_right H (IsOwnHash text) u (power_of_256 level) rest start count hash strings folds fits
          (λ s c h low high is.
          let sum : start + (s - start) ≡ s = omega (arith, low) in
          all (s - start) (omega (arith, low, high, is.0)) h (subst (λ (x : ℕ). IsHashAt text x h) (sym sum) is.1)
          ∙ (λ i. tree_hash H (segment u (sum i) (sym is.0 i) rest))) in
          inl (right ∙ ap (tree_hash H) (segment-of_rest u start count (index * 256) entries ∙ ap (λ (x : ℕ). segment u x count entries) place_is))
    ]

pub checked_tiles_have_stored_hashes : CheckedTilesHaveStoredHashes
checked_tiles_have_stored_hashes H wide tiles size root checked level place hash within is_hash entries len is_root =
    let l : ℕ = level / 8 in
    let r : ℕ = level % 8 in
    let d : ℕ = 2 ^ r in
    let u : ℕ = 256 ^ l in
    let p : ℕ = place * d in
    let height : 2 ^ level ≡ d * u = height_of_8 level in
    let e = power_in_256 r (omega arith) in
    let end : (place + 1) * 2 ^ level ≡ (p + d) * u = ap (λ (x : ℕ). (place + 1) * x) height ∙ omega arith in
    let start : p * u ≡ place * 2 ^ level = omega arith ∙ ap (λ (x : ℕ). place * x) (sym height) in
    let stored = index_is_place H entries level place (omega (arith, within, len)) in
    elim (part_right H wide tiles size root checked entries len is_root l p d is_hash.text hash is_hash.strings
    (in_one_tile place d e.0 (pow_pos r) e.1) (omega (arith, within, end)) is_hash.fetched is_hash.folds)
    as (λ _. (hash ≡ stored_hash H entries (stored_index level place)) ⊎ TilesCollide H tiles size entries) [
      | inr found ↦ inr found
      | inl right ↦ inl (right ∙ (λ i. tree_hash H (take (sym height i) (drop (start i) entries))) ∙ sym stored.1)
    ]
