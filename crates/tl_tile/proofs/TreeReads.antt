-- What is read from the trees of checked tiles.
use Rattle.std.proofs.Common.{◌≡◌, ℕ, ◌+◌, ◌-◌, ◌*◌, ◌/◌, ◌%◌, ◌^◌, ◌<◌, ◌≤◌, inl, inr, List, [], ◌∷◌, ◌++◌, length, get_or, Some, None, refl, sym, ap, subst, ◌∙◌, arith}
use Rattle.std.proofs.lemmas.Bool.{cases_eq, cases_lt}
use Rattle.std.proofs.lemmas.List.{get_or_default}
use Rattle.std.proofs.lemmas.Nat.{div-mul-add, mod-mul-add, pow_pos}
use Rattle.tl_hash.specs.Bytes.{Digest}
use Rattle.tl_tile.specs.declared.resource.Tile.{Tile}
use Rattle.tl_tile.specs.TileText.{level_count, full_tile, tile_with}
use Rattle.tl_tile.specs.declared.tile_reader.subtree.Subtree.{Subtree}
use Rattle.tl_tile.specs.Folds.{Tiles, IsSubtreeHash}
use Rattle.tl_tile.specs.Fetched.{tiles_of}
use Rattle.tl_tile.specs.Inner.EdgeRoot.{Part}
use Rattle.tl_tile.specs.Inner.TileTree.{level_start, IsTileTree, Trees, AreTreesOf}
use Rattle.tl_tile.proofs.Edges.{Some-injective}
use Rattle.tl_tile.proofs.Checked.{tile_with-full, power_in_256}
use Rattle.tl_tile.proofs.Push.{tiles_of-old, tiles_of-new}
use Rattle.tl_tile.proofs.Segments.{scaled_le}

-- ---- hashes in trees

pub tree-many : (H : Digest) (tiles : Tiles) (trees : Trees) (level index : ℕ) (hashes : List (List ℕ)) → AreTreesOf H tiles trees → trees level index ≡ Some hashes → length hashes ≡ 511
tree-many H tiles trees level index hashes are has = (are.found level index hashes has).2.many

-- the hash of a full tile
pub tree-root : (H : Digest) (text : List ℕ) (hashes : List (List ℕ)) (hash : List ℕ) → IsTileTree H text hashes → hash ≡ get_or hashes 510 hash → Part H text 0 256 hash
tree-root H text hashes hash tree is =
    let same : get_or hashes 510 [] ≡ hash = get_or_default hashes 510 [] hash (omega (arith, tree.many)) ∙ sym is in
    subst (Part H text 0 256) same (tree.parts 1 256 0 (8, refl) refl (omega arith) (omega arith))

-- how many hashes of this width a tile has
pub many-of : (r count : ℕ) → r < 8 → count ≡ 2 ^ r → (256 / count * count ≡ 256) × (0 < count)
many-of r count low is =
    let e = power_in_256 r low in
    let some : 0 < count = omega (arith, is, pow_pos r) in
    let whole : e.0 * count ≡ 256 = ap (λ (x : ℕ). e.0 * x) is ∙ e.1 in
    let sum : 256 ≡ e.0 * count + 0 = omega (arith, whole) in
    let many : 256 / count ≡ e.0 = ap (λ (x : ℕ). x / count) sum ∙ div-mul-add e.0 count 0 some in
    (ap (λ (x : ℕ). x * count) many ∙ whole, some)

pub few-many : (many count : ℕ) → many * count ≡ 256 → 0 < count → (0 < many) × (many ≤ 256)
few-many many count product some =
    let most : many ≤ 256 = omega (arith, product, scaled_le 1 count many some) in
    elim (cases_lt 0 many) as (λ _. (0 < many) × (many ≤ 256)) [
      | inl more ↦ (more, most)
      | inr none ↦
          let zero_is : many ≡ 0 = omega (arith, none) in
          absurd (omega (arith, product, ap (λ (x : ℕ). x * count) zero_is))
    ]

-- the hash of a complete subtree below a full tile's
pub tree-part : (H : Digest) (text : List ℕ) (hashes : List (List ℕ)) (r count many place first : ℕ) (hash : List ℕ) → IsTileTree H text hashes → r < 8 → count ≡ 2 ^ r → many ≡ 256 / count → first ≡ place * count
    → hash ≡ get_or hashes (512 - 2 * many + place % many) hash → Part H text (first % 256) count hash
tree-part H text hashes r count many place first hash tree low is many_is first_is hash_is =
    let e = many-of r count low is in
    let product : many * count ≡ 256 = ap (λ (x : ℕ). x * count) many_is ∙ e.0 in
    let few = few-many many count product e.1 in
    let p : ℕ = place % many in
    let less : p < many = omega (arith, few.0) in
    let at : ℕ = level_start many + p in
    let same : get_or hashes at [] ≡ hash = get_or_default hashes at [] hash (omega (arith, tree.many, less, few.1)) ∙ sym hash_is in
    let within : (p + 1) * count ≤ many * count = scaled_le (p + 1) many count (omega (arith, less)) in
    let parts : place ≡ place / many * many + p = omega (arith, few.0) in
    let sum : first ≡ place / many * 256 + p * count =
    first_is ∙ ap (λ (x : ℕ). x * count) parts ∙ omega (arith, ap (λ (x : ℕ). place / many * x) product) in
    let start : p * count ≡ first % 256 = sym (ap (λ (x : ℕ). x % 256) sum ∙ mod-mul-add (place / many) 256 (p * count) (omega (arith, within, product, e.1))) in
    subst (λ (x : ℕ). Part H text x count hash) start
    (subst (Part H text (p * count) count) same (tree.parts many count p (r, is) product less (omega (arith, less, few.1))))

pub tree-index : (r count place : ℕ) (hashes : List (List ℕ)) → r < 8 → count ≡ 2 ^ r → length hashes ≡ 511 → 512 - 2 * (256 / count) + place % (256 / count) < length hashes
tree-index r count place hashes low is long =
    let e = many-of r count low is in
    let few = few-many (256 / count) count e.0 e.1 in
    let less : place % (256 / count) < 256 / count = omega (arith, few.0) in
    omega (arith, long, few.0, few.1, less)

pub tree-subtree : (H : Digest) (tiles : Tiles) (trees : Trees) (size : ℕ) (p : Subtree) (first count : ℕ) (hashes : List (List ℕ)) (hash : List ℕ) → AreTreesOf H tiles trees
    → first / 256 < level_count size (p.level / 8) / 256 → first ≡ p.place * 2 ^ (p.level % 8) → count ≡ 2 ^ (p.level % 8) → trees (p.level / 8) (first / 256) ≡ Some hashes
    → hash ≡ get_or hashes (512 - 2 * (256 / count) + p.place % (256 / count)) hash → IsSubtreeHash H tiles size p.level p.place hash
tree-subtree H tiles trees size p first count hashes hash are full first_is count_is has is =
    let level : ℕ = p.level / 8 in
    let found = are.found level (first / 256) hashes has in
    let from : first ≡ p.place * count = first_is ∙ ap (λ (x : ℕ). p.place * x) (sym count_is) in
    let part : Part H found.0 (first % 256) count hash = tree-part H found.0 hashes (p.level % 8) count (256 / count) p.place first hash found.2 (omega arith) count_is refl from is in
    let in_place : Part H found.0 (p.place * 2 ^ (p.level % 8) % 256) (2 ^ (p.level % 8)) hash =
    subst (λ (x : ℕ). Part H found.0 (x % 256) (2 ^ (p.level % 8)) hash) first_is (subst (λ (x : ℕ). Part H found.0 (first % 256) x hash) count_is part) in
    record {
      text = found.0;
      strings = in_place.0;
      fetched = ap tiles (ap (tile_with size level) (sym first_is) ∙ tile_with-full size level first full) ∙ found.1;
      folds = in_place.1;
    }

-- ---- one tree more

pub trees-none : (H : Digest) (tiles : Tiles) (trees : Trees) → ((level index : ℕ) → trees level index ≡ None) → AreTreesOf H tiles trees
trees-none H tiles trees none = record {
  found = λ level index hashes has. (let both : Some hashes ≡ None = sym has ∙ none level index in absurd (cc));
}

pub trees-push : (H : Digest) (xs ys : List (Tile × List ℕ)) (old new : Trees) (level index : ℕ) (tile : Tile) (text : List ℕ) (hashes : List (List ℕ)) → AreTreesOf H (tiles_of xs) old → tile ≡ full_tile level index
    → tiles_of xs (full_tile level index) ≡ None → ys ≡ xs ++ (tile, text) ∷ [] → IsTileTree H text hashes
    → new level index ≡ Some hashes → ((l i : ℕ) → (l ≡ level → i ≡ index → ⊥) → new l i ≡ old l i) → AreTreesOf H (tiles_of ys) new
trees-push H xs ys old new level index tile text hashes before is none pushed tree here others =
    let f : Tile × List ℕ = (tile, text) in
    let Found : ℕ → ℕ → List (List ℕ) → Type 0 = λ l i hs. (seen : List ℕ) × (tiles_of (xs ++ f ∷ []) (full_tile l i) ≡ Some seen) × IsTileTree H seen hs in
    let own : (l i : ℕ) (hs : List (List ℕ)) → l ≡ level → i ≡ index → new l i ≡ Some hs → Found l i hs =
    (λ l i hs same_level same_index has.
    let at : full_tile l i ≡ full_tile level index = (λ j. full_tile (same_level j) (same_index j)) in
    let hashes_is : hashes ≡ hs = Some-injective hashes hs (sym here ∙ (λ j. new (sym same_level j) (sym same_index j)) ∙ has) in (
      text,
      tiles_of-new xs f (full_tile l i) (is ∙ sym at) (ap (tiles_of xs) at ∙ none),
      subst (IsTileTree H text) hashes_is tree,
    )) in
    let other : (l i : ℕ) (hs : List (List ℕ)) → (l ≡ level → i ≡ index → ⊥) → new l i ≡ Some hs → Found l i hs =
    (λ l i hs apart has.
    let found = before.found l i hs (sym (others l i apart) ∙ has) in
    (found.0, tiles_of-old xs f (full_tile l i) found.0 found.1, found.2)) in
    subst (λ (zs : List (Tile × List ℕ)). AreTreesOf H (tiles_of zs) new) (sym pushed) (record {
      found = λ l i hs has.
          elim (cases_eq l level) as (λ _. Found l i hs) [
            | inr differ ↦ other l i hs (λ same _. differ same) has
            | inl same ↦
                elim (cases_eq i index) as (λ _. Found l i hs) [
                  | inl equal ↦ own l i hs same equal has
                  | inr differ ↦ other l i hs (λ _ equal. differ equal) has
                ]
          ];
    })
