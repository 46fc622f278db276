-- Entries with the leaf hashes of a log are its entries, or two strings collide.
use Rattle.std.proofs.Common.{◌≡◌, ◌≢◌, ℕ, suc, ◌+◌, ◌*◌, ◌<◌, ◌≤◌, ◌⊎◌, inl, inr, List, [], ◌∷◌, length, take, drop, map, slice_index_or, Contains, refl, sym, ap, subst, ◌∙◌, arith}
use Rattle.std.proofs.lemmas.List.{get_or-take, get_or-drop, get_or-map, length-map, length-drop, length-take-le}
use Rattle.std.proofs.lemmas.List.Elements.{Contains-get_or}
use Rattle.std.proofs.lemmas.List.FromFn.{get_or-map-range_with_len, length-map-range_with_len}
use Rattle.tl_hash.specs.Bytes.{Digest}
use Rattle.tl_hash.specs.Tree.{leaf_input, tree_hash}
use Rattle.tl_hash.proofs.Bytes.{cases_bytes}
use Rattle.tl_store.specs.Stored.{stored_index, stored_hash}
use Rattle.tl_proof.proofs.AuditAnswers.{inputs-leaf}
use Rattle.tl_tile.specs.declared.resource.Tile.{Tile}
use Rattle.tl_tile.specs.Bundle.{AreEntries}
use Rattle.tl_tile.specs.Fetched.{tiles_of}
use Rattle.tl_tile.specs.Folds.{TilesCollide}
use Rattle.tl_tile.specs.TileReader.{AreAuthentic}
use Rattle.tl_tile.specs.Needed.{bundle_width}
use Rattle.tl_client.specs.Checked.{AreCheckedEntries, LeavesCollide}
use Rattle.tl_client.specs.Blame.{leaf_numbers}
use Rattle.tl_client.specs.Inner.Leaves.{HaveLeaves}
use Rattle.tl_client.proofs.LeafReads.{leaf_stored}

-- two lists of one length differ at a place
pub record DifferAt (xs ys : List (List ℕ)) : Type 0 where
  pub place : ℕ
  pub below : place < length xs
  pub differ : slice_index_or xs place [] ≢ slice_index_or ys place []

-- they are the same, or differ at a place
pub same_or_differ : (xs ys : List (List ℕ)) → length xs ≡ length ys → (xs ≡ ys) ⊎ DifferAt xs ys
same_or_differ [] [] same = inl refl
same_or_differ [] (y ∷ ys) same = absurd (omega (arith, same))
same_or_differ (x ∷ xs) [] same = absurd (omega (arith, same))
same_or_differ (x ∷ xs) (y ∷ ys) same =
    elim (cases_bytes x y) as (λ _. (x ∷ xs ≡ y ∷ ys) ⊎ DifferAt (x ∷ xs) (y ∷ ys)) [
      | inr differ ↦ inr (record { place = 0; below = omega arith; differ = differ })
      | inl first ↦
          elim (same_or_differ xs ys (omega (arith, same))) as (λ _. (x ∷ xs ≡ y ∷ ys) ⊎ DifferAt (x ∷ xs) (y ∷ ys)) [
            | inl rest ↦ inl (λ i. first i ∷ rest i)
            | inr at ↦ inr (record { place = suc at.place; below = omega (arith, at.below); differ = at.differ })
          ]
    ]

-- the leaf hashes that are stored are those of the entries
pub leaf_at : (H : Digest) (first count i : ℕ) (leaves all : List (List ℕ)) → first + count ≤ length all → i < count
    → leaves ≡ map (stored_hash H all) (leaf_numbers first count) → slice_index_or leaves i [] ≡ H (leaf_input (slice_index_or all (first + i) []))
leaf_at H first count i leaves all inside less stored =
    let number : slice_index_or (leaf_numbers first count) i 0 ≡ stored_index 0 (first + i) = get_or-map-range_with_len (λ x. stored_index 0 (first + x)) 0 count i i 0 less (omega arith) in
    let numbers : length (leaf_numbers first count) ≡ count = length-map-range_with_len (λ x. stored_index 0 (first + x)) 0 count in
    ap (λ (xs : List (List ℕ)). slice_index_or xs i []) stored
    ∙ get_or-map (stored_hash H all) (leaf_numbers first count) i 0 [] (omega (arith, less, numbers))
    ∙ ap (stored_hash H all) number
    ∙ leaf_stored H all (first + i) (omega (arith, less, inside))

-- an entry whose leaf hash isn't the authentic one is another
pub other_entry : (H : Digest) (first count size : ℕ) (root : List ℕ) (fetched : List (Tile × List ℕ)) (entries leaves : List (List ℕ)) (place : ℕ) → first + count ≤ size → place < count
    → AreAuthentic H (record { size = size; root = root; indexes = leaf_numbers first count; fetched = fetched }) leaves
    → H (leaf_input (slice_index_or entries place [])) ≢ slice_index_or leaves place []
    → (all : List (List ℕ)) → length all ≡ size → tree_hash H all ≡ root
    → (slice_index_or entries place [] ≢ slice_index_or all (first + place) []) ⊎ TilesCollide H (tiles_of fetched) size all
other_entry H first count size root fetched entries leaves place inside less authentic other all sized rooted =
    elim (authentic.stored all sized rooted) as (λ _. (slice_index_or entries place [] ≢ slice_index_or all (first + place) []) ⊎ TilesCollide H (tiles_of fetched) size all) [
      | inr collide ↦ inr collide
      | inl stored ↦ inl (λ same. other (ap (λ (e : List ℕ). H (leaf_input e)) same ∙ sym (leaf_at H first count place leaves all (omega (arith, inside, sized)) less stored)))
    ]

-- the leaf hash of an entry that is another at a place is also that of the log's
leaf_collides : (H : Digest) (first count : ℕ) (entries leaves all : List (List ℕ)) → first + count ≤ length all → length entries ≡ count
    → leaves ≡ map (stored_hash H all) (leaf_numbers first count) → HaveLeaves H entries leaves → DifferAt entries (take count (drop first all))
    → LeavesCollide H entries all
leaf_collides H first count entries leaves all inside many stored have at =
    let i : ℕ = at.place in
    let less : i < count = omega (arith, at.below, many) in
    let own : List ℕ = slice_index_or entries i [] in
    let there : List ℕ = slice_index_or all (first + i) [] in
    let hash : slice_index_or leaves i [] ≡ H (leaf_input there) = leaf_at H first count i leaves all inside less stored in
    let part : slice_index_or (take count (drop first all)) i [] ≡ there = get_or-take count (drop first all) i [] less ∙ get_or-drop first all i [] in (
      leaf_input own,
      leaf_input there,
      record {
        first = subst (Contains (map leaf_input entries)) (get_or-map leaf_input entries i [] [] at.below)
            (Contains-get_or (map leaf_input entries) i [] (omega (arith, at.below, length-map entries leaf_input)));
        second = inputs-leaf H all (first + i) (omega (arith, less, inside));
        differ = λ e. at.differ ((let same : own ≡ there = cc in same) ∙ sym part);
        same_digest = have i at.below ∙ hash;
      },
    )

-- entries whose leaf hashes are authentic
pub same_entries : (H : Digest) (first count size : ℕ) (root : List ℕ) (fetched : List (Tile × List ℕ)) (entries leaves : List (List ℕ)) → first + count ≤ size → length entries ≡ count
    → AreAuthentic H (record { size = size; root = root; indexes = leaf_numbers first count; fetched = fetched }) leaves → HaveLeaves H entries leaves
    → (all : List (List ℕ)) → length all ≡ size → tree_hash H all ≡ root
    → (entries ≡ take count (drop first all)) ⊎ (LeavesCollide H entries all ⊎ TilesCollide H (tiles_of fetched) size all)
same_entries H first count size root fetched entries leaves inside many authentic have all sized rooted =
    elim (authentic.stored all sized rooted) as (λ _. (entries ≡ take count (drop first all)) ⊎ (LeavesCollide H entries all ⊎ TilesCollide H (tiles_of fetched) size all)) [
      | inr collide ↦ inr (inr collide)
      | inl stored ↦
          let part : length (take count (drop first all)) ≡ count = length-take-le count (drop first all) (omega (arith, inside, sized, length-drop first all)) in
          elim (same_or_differ entries (take count (drop first all)) (many ∙ sym part)) as
          (λ _. (entries ≡ take count (drop first all)) ⊎ (LeavesCollide H entries all ⊎ TilesCollide H (tiles_of fetched) size all)) [
            | inl same ↦ inl same
            | inr at ↦ inr (inl (leaf_collides H first count entries leaves all (omega (arith, inside, sized)) many stored have at))
          ]
    ]

-- the entries of a bundle
pub checked_entries : (H : Digest) (width size bundle : ℕ) (root : List ℕ) (fetched : List (Tile × List ℕ)) (entries leaves : List (List ℕ)) → width ≡ bundle_width size bundle
    → 256 * bundle + width ≤ size → AreEntries width entries
    → AreAuthentic H (record { size = size; root = root; indexes = leaf_numbers (256 * bundle) width; fetched = fetched }) leaves → HaveLeaves H entries leaves
    → AreCheckedEntries H (tiles_of fetched) size root bundle entries
checked_entries H width size bundle root fetched entries leaves value inside are authentic have =
    record {
      whole = subst (λ (w : ℕ). AreEntries w entries) value are;
      those = λ all sized rooted.
          subst (λ (w : ℕ). (entries ≡ take w (drop (256 * bundle) all)) ⊎ (LeavesCollide H entries all ⊎ TilesCollide H (tiles_of fetched) size all)) value
          (same_entries H (256 * bundle) width size root fetched entries leaves inside are.count authentic have all sized rooted);
    }
